-- The places of the things that pass a test, and one of some indexes.
use Rattle.std.proofs.Common.{◌≡◌, ℕ, zero, suc, ◌+◌, ◌-◌, ◌<◌, Bool, true, false, not, List, [], ◌∷◌, ◌++◌, length, drop, refl, sym, ap, ◌∙◌, append_assoc, arith, length-append, inl, inr, Some}
use Rattle.std.specs.List.{AllByRecursion}
use Rattle.std.specs.Option.{unwrap_or}
use Rattle.std.specs.Prelude.{slice_get, ◌==◌, if◌then◌else◌}
use Rattle.std.proofs.lemmas.Bool.Decides.{eqb_tells}
use Rattle.std.proofs.lemmas.List.{append-nil}
use Rattle.wasm_spec.proofs.Places.{get_right, get_some}
use Rattle.wasm_smith_unstructured.specs.Draws.{choose_at, int_at}
use Rattle.wasm_smith_types.proofs.ListLaws.{all_get, index_below}
use Rattle.wasm_smith_definitions.specs.Indexes.{places, index_at}

-- a place has a thing that passes a test
pub record IsPlace {A : Type 0} (test : A → Bool) (xs : List A) (place : ℕ) : Type 0 where
  pub item : A
  pub is : slice_get xs place ≡ Some item
  pub passes : test item ≡ true

module _ {A : Type 0} (test : A → Bool) where
  -- that of the first thing, and then those of the others
  first_and_others : (i : ℕ) (x : A) (xs : List A) → places test i (x ∷ xs) ≡ (if test x then i ∷ [] else []) ++ places test (suc i) xs
  first_and_others i x xs = go (test x)
    where
      go : (b : Bool) → (if b then i ∷ places test (suc i) xs else places test (suc i) xs) ≡ (if b then i ∷ [] else []) ++ places test (suc i) xs
      go true = refl
      go false = refl

  pub one_more : (i next : ℕ) (b : Bool) (x : A) (xs rest : List A) (indexes more all : List ℕ) → xs ≡ x ∷ rest → next ≡ i + 1 → b ≡ test x
      → more ≡ indexes ++ (if b then i ∷ [] else [])
      → indexes ++ places test i xs ≡ all → more ++ places test next rest ≡ all
  one_more i next b x xs rest indexes more all is step tested added so_far =
      let next_is : suc i ≡ next = omega (arith, step) in
      let split : places test i (x ∷ rest) ≡ (if test x then i ∷ [] else []) ++ places test next rest =
      first_and_others i x rest ∙ ap (λ n. (if test x then i ∷ [] else []) ++ places test n rest) next_is in
      ap (λ ys. ys ++ places test next rest) added
      ∙ append_assoc indexes (if b then i ∷ [] else []) (places test next rest)
      ∙ ap (λ c. indexes ++ ((if c then i ∷ [] else []) ++ places test next rest)) tested
      ∙ ap (λ ys. indexes ++ ys) (sym split) ∙ ap (λ ys. indexes ++ places test i ys) (sym is) ∙ so_far

  pub ended : (i : ℕ) (xs : List A) (indexes all : List ℕ) → xs ≡ [] → indexes ++ places test i xs ≡ all → indexes ≡ all
  ended i xs indexes all none so_far = sym (append-nil indexes) ∙ ap (λ ys. indexes ++ places test i ys) (sym none) ∙ so_far

  places_after : (front xs : List A) → AllByRecursion (IsPlace test (front ++ xs)) (places test (length front) xs)
  places_after front [] = tt
  places_after front (x ∷ xs) =
      let all : (front ++ x ∷ []) ++ xs ≡ front ++ x ∷ xs = append_assoc front (x ∷ []) xs in
      let next : length (front ++ x ∷ []) ≡ suc (length front) = omega (arith, length-append front (x ∷ [])) in
      let others : AllByRecursion (IsPlace test (front ++ x ∷ xs)) (places test (suc (length front)) xs) =
      rw (all, next) at (places_after (front ++ x ∷ []) xs) in
      let none : length front + 0 ≡ length front = omega arith in
      let here : slice_get (front ++ x ∷ xs) (length front) ≡ Some x = rw none at (get_right front (x ∷ xs) 0) in
      go (test x) refl here others
    where
      go : (b : Bool) → test x ≡ b → slice_get (front ++ x ∷ xs) (length front) ≡ Some x
          → AllByRecursion (IsPlace test (front ++ x ∷ xs)) (places test (suc (length front)) xs)
          → AllByRecursion (IsPlace test (front ++ x ∷ xs)) (if b then length front ∷ places test (suc (length front)) xs else places test (suc (length front)) xs)
      go true e here others = (record { item = x; is = here; passes = e }, others)
      go false e here others = others

  pub all_places : (xs : List A) → AllByRecursion (IsPlace test xs) (places test 0 xs)
  all_places xs = places_after [] xs

-- what is left of a list from a place that it has
pub from_place : {A : Type 0} (xs : List A) (i : ℕ) (x : A) → slice_get xs i ≡ Some x → drop i xs ≡ x ∷ drop (i + 1) xs
from_place [] i x e = absurd cc
from_place (y ∷ xs) zero x e = let is : y ≡ x = cc in ap (λ z. z ∷ xs) is
from_place (y ∷ xs) (suc i) x e =
    let up : suc i + 1 ≡ suc (i + 1) = omega arith in
    rw up (from_place xs i x e)

-- ---- one of some indexes

chosen_of : (P : ℕ → Type 0) (xs : List ℕ) (i : ℕ) → i < length xs → AllByRecursion P xs → P (unwrap_or (slice_get xs i) 0)
chosen_of P xs i lt all = let at = get_some xs i lt in rw at.1 (all_get P xs i at.0 all at.1)

pub index_of : (P : ℕ → Type 0) (xs s t : List ℕ) (index : ℕ) → 0 < length xs → AllByRecursion P xs → index_at xs s ≡ (index, t) → P index
unfolding index_at choose_at
index_of P xs s t index some all e =
    elim (eqb_tells (length xs) 0) [
      | inl (test, none) ↦ absurd (omega (arith, none, some))
      | inr (test, n) ↦
          let i = (int_at 0 (length xs - 1) s).0 in
          let is : (unwrap_or (slice_get xs i) 0, (int_at 0 (length xs - 1) s).1) ≡ (index, t) = rw test at e in
          let same : unwrap_or (slice_get xs i) 0 ≡ index = ap (λ (d : ℕ × List ℕ). d.0) is in
          rw (sym same) (chosen_of P xs i (index_below (length xs) s n) all)
    ]

pub some_of : (n : ℕ) → not (n == 0) ≡ true → 0 < n
some_of zero e = absurd cc
some_of (suc n) e = omega arith

pub some_unless : (n : ℕ) → (n == 0) ≡ false → 0 < n
some_unless n e = some_of n (ap not e)
