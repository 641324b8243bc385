-- The list of the groups that fit.
use Rattle.std.proofs.Common.{◌≡◌, ℕ, ◌+◌, ◌≤◌, ◌<◌, Bool, true, false, List, [], ◌∷◌, ◌++◌, ◌||◌, length, Option, Some, leb, if◌then◌else◌, refl, sym, ap, ◌∙◌, arith, subst}
use Rattle.std.proofs.lemmas.Bool.{lt-ltb, le-leb, leb-true}
use Rattle.std.proofs.lemmas.Option.{slice_get_within}
use Rattle.std.specs.Prelude.{nat_lt}
use Rattle.std.specs.List.{slice_get, AllByRecursion, list_any, filter}
use Rattle.wasm_smith_unstructured.specs.Draws.{choose_at}
use Rattle.wasm_spec.proofs.Places.{get_left, get_right}
use Rattle.wasm_smith_types.specs.Drawing.{fits, total}
use Rattle.wasm_smith_types.specs.Fitting.{IsSpan, AreChoices, AreFitting}
use Rattle.wasm_smith_types.specs.declared.fitting.Fitting.{Fitting}
use Rattle.wasm_smith_types.specs.declared.fitting.Span.{Span}
use Rattle.wasm_smith_types.proofs.GroupDraws.{any_more}
use Rattle.wasm_smith_types.proofs.GroupedLaws.{take_front, take_whole}
use Rattle.wasm_smith_types.proofs.ListLaws.{all_append, chosen}
use Rattle.wasm_smith_types.proofs.PermittedLaws.{all_imply'}

-- ---- lists

module _ {X : Type 0} (test : X → Bool) where
  all_filter : (P : X → Type 0) (xs : List X) → AllByRecursion P xs → AllByRecursion P (filter test xs)
  all_filter P [] h = tt
  all_filter P (x ∷ xs) h = go (test x) (all_filter P xs h.1)
    where
      go : (b : Bool) → AllByRecursion P (filter test xs) → AllByRecursion P (if b then x ∷ filter test xs else filter test xs)
      go true rest = (h.0, rest)
      go false rest = rest

  all_filtered : (xs : List X) → AllByRecursion (λ x. test x ≡ true) (filter test xs)
  all_filtered [] = tt
  all_filtered (x ∷ xs) = go (test x) refl (all_filtered xs)
    where
      go : (b : Bool) → test x ≡ b → AllByRecursion (λ y. test y ≡ true) (filter test xs)
          → AllByRecursion (λ y. test y ≡ true) (if b then x ∷ filter test xs else filter test xs)
      go true e rest = (e, rest)
      go false e rest = rest

  -- what a filter keeps decides on a narrower test
  any_filter : (p : X → Bool) → ((x : X) → p x ≡ true → test x ≡ true) → (xs : List X) → list_any p (filter test xs) ≡ list_any p xs
  any_filter p narrower [] = refl
  any_filter p narrower (x ∷ xs) = go (test x) (p x) refl refl (any_filter p narrower xs)
    where
      go : (b c : Bool) → test x ≡ b → p x ≡ c → list_any p (filter test xs) ≡ list_any p xs
          → list_any p (if b then x ∷ filter test xs else filter test xs) ≡ list_any p (x ∷ xs)
      go true c e f rest = ap (λ d. p x || d) rest
      go false true e f rest = absurd (let on : test x ≡ true = narrower x f in cc)
      go false false e f rest = rw f rest

any_all : {X : Type 0} (p : X → Bool) (xs : List X) → AllByRecursion (λ x. p x ≡ true) xs → nat_lt 0 (length xs) ≡ list_any p xs
any_all p [] h = refl
any_all p (x ∷ xs) h = lt-ltb 0 (length (x ∷ xs)) (omega arith) ∙ sym (rw h.0 refl)

-- ---- what is left falls

pub fits_less : (sizes : List ℕ) (more left : ℕ) (f : Fitting) → left ≤ more → AreFitting sizes more f → AreFitting sizes left f
fits_less sizes more left f le h = record { each = h.each; greatest = h.greatest; asks = λ bound few. h.asks bound (omega (arith, few, le)) }

choices : (sizes : List ℕ) (left : ℕ) (f : Fitting) → AreFitting sizes left f → AllByRecursion (λ span. span.size ≤ left) f.spans.items
    → AreChoices sizes left f.spans.items
choices sizes left f h few = record {
  each = both f.spans.items h.each few;
  asks =
      any_all (λ (span : Span). fits left span.size) f.spans.items
      (all_imply' (λ span. span.size ≤ left) (λ span. fits left span.size ≡ true) (λ span le. le-leb span.size left le) f.spans.items few)
      ∙ h.asks left (omega arith);
}
  where
    both : (spans : List Span) → AllByRecursion (λ span. IsSpan sizes span × (0 < span.size)) spans → AllByRecursion (λ span. span.size ≤ left) spans
        → AllByRecursion (λ span. IsSpan sizes span × (0 < span.size) × (span.size ≤ left)) spans
    both [] each few = tt
    both (span ∷ spans) each few = ((each.0.0, each.0.1, few.0), both spans each.1 few.1)

pub all_kept : (sizes : List ℕ) (more left : ℕ) (f : Fitting) → left ≤ more → f.greatest ≤ left → AreFitting sizes more f
    → AreFitting sizes left f × AreChoices sizes left f.spans.items
all_kept sizes more left f le few h =
    let it = fits_less sizes more left f le h in
    (it, choices sizes left f it (all_imply' (λ span. span.size ≤ f.greatest) (λ span. span.size ≤ left) (λ span small. omega (arith, small, few)) f.spans.items h.greatest))

pub some_kept : (sizes : List ℕ) (more left : ℕ) (old new : Fitting) → left ≤ more → new.spans.items ≡ filter (λ span. leb span.size left) old.spans.items
    → AllByRecursion (λ span. span.size ≤ new.greatest) new.spans.items → AreFitting sizes more old
    → AreFitting sizes left new × AreChoices sizes left new.spans.items
some_kept sizes more left old new le kept greatest h =
    let test : Span → Bool = λ span. leb span.size left in
    let it : AreFitting sizes left new = record {
      each = rw kept (all_filter test (λ span. IsSpan sizes span × (0 < span.size)) old.spans.items h.each);
      greatest = greatest;
      asks = λ bound few.
          ap (list_any (λ (span : Span). fits bound span.size)) kept
          ∙ any_filter test (λ (span : Span). fits bound span.size)
          (λ span on. le-leb span.size left (omega (arith, leb-true span.size bound on, few))) old.spans.items
          ∙ h.asks bound (omega (arith, few, le));
    } in
    let few : AllByRecursion (λ span. span.size ≤ left) new.spans.items =
    rw kept
    (all_imply' (λ (span : Span). test span ≡ true) (λ span. span.size ≤ left) (λ span on. leb-true span.size left on) (filter test old.spans.items) (all_filtered test old.spans.items)) in
    (it, choices sizes left new it few)

pub choice : (sizes : List ℕ) (left : ℕ) (spans : List Span) (s t : List ℕ) (span : Span) → AreChoices sizes left spans → choose_at spans s ≡ (Some span, t)
    → IsSpan sizes span × (0 < span.size) × (span.size ≤ left)
choice sizes left spans s t span h e =
    chosen (λ span'. IsSpan sizes span' × (0 < span'.size) × (span'.size ≤ left)) spans s span h.each (ap (λ (d : Option Span × List ℕ). d.0) e)

-- ---- one more group

span_with_more : (sizes : List ℕ) (n : ℕ) (span : Span) → IsSpan sizes span → IsSpan (sizes ++ n ∷ []) span
span_with_more sizes n span h =
    let lt = slice_get_within sizes h.place span.size h.size in
    record {
      place = h.place;
      start = ap total (take_front h.place sizes (n ∷ []) (omega (arith, lt))) ∙ h.start;
      size = get_left sizes (n ∷ []) h.place lt ∙ h.size;
    }

last_span : (sizes : List ℕ) (span : Span) → total sizes ≡ span.start → IsSpan (sizes ++ span.size ∷ []) span
last_span sizes span start =
    let z : length sizes + 0 ≡ length sizes = omega arith in
    record {
      place = length sizes;
      start = ap total (take_front (length sizes) sizes (span.size ∷ []) (omega arith) ∙ take_whole sizes) ∙ start;
      size = subst (λ i. slice_get (sizes ++ span.size ∷ []) i ≡ Some span.size) z (get_right sizes (span.size ∷ []) 0);
    }

pub one_more_fits : (sizes : List ℕ) (left : ℕ) (old new : Fitting) (span : Span) → total sizes ≡ span.start → 0 < span.size
    → new.spans.items ≡ old.spans.items ++ span ∷ [] → old.greatest ≤ new.greatest → span.size ≤ new.greatest
    → AreFitting sizes left old → AreFitting (sizes ++ span.size ∷ []) left new
one_more_fits sizes left old new span start some added more most h = record {
  each = rw added (all_append (λ span'. IsSpan (sizes ++ span.size ∷ []) span' × (0 < span'.size)) old.spans.items (span ∷ [])
      (all_imply' (λ span'. IsSpan sizes span' × (0 < span'.size)) (λ span'. IsSpan (sizes ++ span.size ∷ []) span' × (0 < span'.size)) (λ span' it. (span_with_more sizes span.size span' it.0, it.1)) old.spans.items h.each)
      ((last_span sizes span start, some), tt));
  greatest = rw added (all_append (λ span'. span'.size ≤ new.greatest) old.spans.items (span ∷ [])
      (all_imply' (λ span'. span'.size ≤ old.greatest) (λ span'. span'.size ≤ new.greatest) (λ span' le. omega (arith, le, more)) old.spans.items h.greatest)
      (most, tt));
  asks = λ bound few.
      ap (list_any (λ (s : Span). fits bound s.size)) added ∙ any_more (λ (s : Span). fits bound s.size) old.spans.items span
      ∙ ap (λ b. b || fits bound span.size) (h.asks bound few) ∙ sym (any_more (fits bound) sizes span.size);
}

-- ---- the largest group

pub at_most_more : (spans rest : List Span) (g h : ℕ) → g ≤ h
    → ((m : ℕ) → g ≤ m → AllByRecursion (λ span. span.size ≤ m) rest → AllByRecursion (λ span. span.size ≤ m) spans) → (span : Span) (others : List Span)
    → rest ≡ span ∷ others → span.size ≤ h
    → (m : ℕ) → h ≤ m → AllByRecursion (λ span. span.size ≤ m) others → AllByRecursion (λ span. span.size ≤ m) spans
at_most_more spans rest g h le so_far span others is few m above all = so_far m (omega (arith, le, above)) (rw is (omega (arith, few, above), all))
