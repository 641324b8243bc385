-- Functions and tags that fit into what is left.
use Rattle.std.proofs.Common.{◌≡◌, ℕ, suc, ◌+◌, ◌≤◌, ◌<◌, Bool, true, false, cond, List, [], ◌∷◌, ◌++◌, ◌||◌, length, Some, refl, sym, ap, ◌∙◌, append_assoc, arith, length-append, nat_lt, inl, inr}
use Rattle.std.specs.List.{AllByRecursion, filter, list_any}
use Rattle.std.specs.Option.{option_and_then}
use Rattle.std.specs.Prelude.{slice_get, ◌==◌, not}
use Rattle.std.proofs.lemmas.Bool.{lt-ltb, le-leb, leb-true, ltb-true}
use Rattle.std.proofs.lemmas.Bool.Decides.{eqb_tells}
use Rattle.std.proofs.lemmas.List.{append-nil}
use Rattle.wasm_spec.proofs.Places.{get_right}
use Rattle.wasm_spec.specs.Types.{SubType}
use Rattle.wasm_smith_unstructured.specs.Draws.{choose_at}
use Rattle.wasm_smith_types.proofs.ListLaws.{chosen}
use Rattle.wasm_smith_definitions.specs.FunctionTypes.{func_size}
use Rattle.wasm_smith_validity.specs.Spaces.{func_type_at}
use Rattle.wasm_smith_externs.specs.Exports.{type_fits}
use Rattle.wasm_smith_externs.specs.Fitting.{fits, sized}
use Rattle.wasm_smith_externs.specs.declared.fitting.SizedItem.{SizedItem}

-- ---- what a filter keeps

pub all_fit : (left m : ℕ) (items : List SizedItem) → m ≤ left → AllByRecursion (λ item. item.size ≤ m) items → items ≡ filter (fits left) items
all_fit left m [] few all = refl
all_fit left m (item ∷ items) few all =
    let on : fits left item ≡ true = le-leb item.size left (omega (arith, all.0, few)) in
    rw on (ap (λ xs. item ∷ xs) (all_fit left m items few all.1))

pub fewer_fit : (more left : ℕ) (items : List SizedItem) → left ≤ more → filter (fits left) (filter (fits more) items) ≡ filter (fits left) items
fewer_fit more left [] few = refl
fewer_fit more left (item ∷ items) few = go (fits more item) (fits left item) refl refl (fewer_fit more left items few)
  where
    go : (b d : Bool) → fits more item ≡ b → fits left item ≡ d → filter (fits left) (filter (fits more) items) ≡ filter (fits left) items
        → filter (fits left) (cond b (item ∷ filter (fits more) items) (filter (fits more) items)) ≡ cond d (item ∷ filter (fits left) items) (filter (fits left) items)
    go true true e f rest = rw f (ap (λ xs. item ∷ xs) rest)
    go true false e f rest = rw f rest
    go false true e f rest = let wide : fits more item ≡ true = le-leb item.size more (omega (arith, leb-true item.size left f, few)) in absurd cc
    go false false e f rest = rest

pub all_filter : (P : SizedItem → Type 0) (left : ℕ) (items : List SizedItem) → AllByRecursion P items → AllByRecursion (λ item. P item × (item.size ≤ left)) (filter (fits left) items)
all_filter P left [] all = tt
all_filter P left (item ∷ items) all = go (fits left item) refl (all_filter P left items all.1)
  where
    go : (b : Bool) → fits left item ≡ b → AllByRecursion (λ x. P x × (x.size ≤ left)) (filter (fits left) items)
        → AllByRecursion (λ x. P x × (x.size ≤ left)) (cond b (item ∷ filter (fits left) items) (filter (fits left) items))
    go true e rest = ((all.0, leb-true item.size left e), rest)
    go false e rest = rest

-- ---- sizes

pub one_sized : (types : List (SubType ℕ)) (i next type : ℕ) (others rest : List ℕ) (item : SizedItem) (items more all : List SizedItem) → others ≡ type ∷ rest → next ≡ i + 1
    → item ≡ record { index = i; size = func_size (func_type_at types type) } → more ≡ items ++ item ∷ []
    → items ++ sized types i others ≡ all → more ++ sized types next rest ≡ all
one_sized types i next type others rest item items more all is step made added so_far =
    let next_is : next ≡ suc i = omega (arith, step) in
    ap (λ xs. xs ++ sized types next rest) added ∙ append_assoc items (item ∷ []) (sized types next rest)
    ∙ ap (λ x. items ++ x ∷ sized types next rest) made
    ∙ ap (λ n. items ++ record { index = i; size = func_size (func_type_at types type) } ∷ sized types n rest) next_is
    ∙ ap (λ xs. items ++ sized types i xs) (sym is) ∙ so_far

pub all_sized_so_far : (types : List (SubType ℕ)) (i : ℕ) (others : List ℕ) (items all : List SizedItem) → others ≡ [] → items ++ sized types i others ≡ all → items ≡ all
all_sized_so_far types i others items all none so_far = sym (append-nil items) ∙ ap (λ xs. items ++ sized types i xs) (sym none) ∙ so_far

-- an item is one of these
pub record IsOne (types : List (SubType ℕ)) (indexes : List ℕ) (item : SizedItem) : Type 0 where
  pub there : item.index < length indexes
  pub is : item.size ≡ func_size (option_and_then (func_type_at types) (slice_get indexes item.index))

sized_after : (types : List (SubType ℕ)) (front others : List ℕ) → AllByRecursion (IsOne types (front ++ others)) (sized types (length front) others)
sized_after types front [] = tt
sized_after types front (type ∷ others) =
    let all : (front ++ type ∷ []) ++ others ≡ front ++ type ∷ others = append_assoc front (type ∷ []) others in
    let next : length (front ++ type ∷ []) ≡ suc (length front) = omega (arith, length-append front (type ∷ [])) in
    let rest : AllByRecursion (IsOne types (front ++ type ∷ others)) (sized types (suc (length front)) others) =
    rw (all, next) at (sized_after types (front ++ type ∷ []) others) in
    let none : length front + 0 ≡ length front = omega arith in
    let here : slice_get (front ++ type ∷ others) (length front) ≡ Some type = rw none at (get_right front (type ∷ others) 0) in
    (record { there = omega (arith, length-append front (type ∷ others)); is = rw here refl }, rest)

pub all_sized : (types : List (SubType ℕ)) (indexes : List ℕ) → AllByRecursion (IsOne types indexes) (sized types 0 indexes)
all_sized types indexes = sized_after types [] indexes

-- one fits where one is left
pub some_fit : (types : List (SubType ℕ)) (left i : ℕ) (indexes : List ℕ) → nat_lt 0 (length (filter (fits left) (sized types i indexes))) ≡ list_any (type_fits types left) indexes
some_fit types left i [] = refl
some_fit types left i (type ∷ others) = go (type_fits types left type) (some_fit types left (suc i) others)
  where
    item : SizedItem
    item = record { index = i; size = func_size (func_type_at types type) }

    rest : List SizedItem
    rest = filter (fits left) (sized types (suc i) others)

    go : (b : Bool) → nat_lt 0 (length rest) ≡ list_any (type_fits types left) others → nat_lt 0 (length (cond b (item ∷ rest) rest)) ≡ (b || list_any (type_fits types left) others)
    go true e = lt-ltb 0 (length (item ∷ rest)) (omega arith)
    go false e = e

not_none : (n : ℕ) → not (n == 0) ≡ nat_lt 0 n
not_none n = elim (eqb_tells n 0) [
  | inl (test, none) ↦ rw none refl
  | inr (test, some) ↦ rw (test, lt-ltb 0 n (omega (arith, some))) refl
]

module _ (types : List (SubType ℕ)) (left : ℕ) (indexes : List ℕ) (items : List SizedItem) (are : items ≡ filter (fits left) (sized types 0 indexes)) where
  pub not_empty : (empty : Bool) → empty ≡ (length items == 0) → not empty ≡ list_any (type_fits types left) indexes
  not_empty empty tested = ap not tested ∙ not_none (length items) ∙ ap (λ (xs : List SizedItem). nat_lt 0 (length xs)) are ∙ some_fit types left 0 indexes

  pub one_there : list_any (type_fits types left) indexes ≡ true → 0 < length items
  one_there some = ltb-true 0 (length items) (ap (λ (xs : List SizedItem). nat_lt 0 (length xs)) are ∙ some_fit types left 0 indexes ∙ some)

  pub fitting_one : (s : List ℕ) (item : SizedItem) → (choose_at items s).0 ≡ Some item → IsOne types indexes item × (item.size ≤ left)
  fitting_one s item e =
      chosen (λ x. IsOne types indexes x × (x.size ≤ left)) items s item
      (rw are (all_filter (IsOne types indexes) left (sized types 0 indexes) (all_sized types indexes))) e

-- ---- the largest type

pub at_most_more : (items rest : List SizedItem) (g h : ℕ) → g ≤ h
    → ((m : ℕ) → g ≤ m → AllByRecursion (λ item. item.size ≤ m) rest → AllByRecursion (λ item. item.size ≤ m) items) → (item : SizedItem) (others : List SizedItem)
    → rest ≡ item ∷ others → item.size ≤ h
    → (m : ℕ) → h ≤ m → AllByRecursion (λ item. item.size ≤ m) others → AllByRecursion (λ item. item.size ≤ m) items
at_most_more items rest g h le so_far item others is few m above all = so_far m (omega (arith, le, above)) (rw is (omega (arith, few, above), all))
