-- The ids of a group follow one another, and their types are those of a tree in order.
use Rattle.std.proofs.Common.{◌≡◌, ℕ, zero, suc, ◌+◌, ◌-◌, ◌<◌, ◌≤◌, List, [], ◌∷◌, ◌++◌, map, length, slice_get, Option, Some, None, option_map, refl, sym, ap, subst, ◌∙◌, arith, length-append}
use Rattle.std.proofs.lemmas.List.{length-map}
use Rattle.std.proofs.lemmas.Option.{slice_get-map, slice_get_within}
use Rattle.std.specs.List.{flat_map, range_with_len}
use Rattle.std.specs.Option.{unwrap_or}
use Rattle.wasm_spec.specs.Trees.{DefType, GroupTree, opened, places_of, type_at}
use Rattle.wasm_spec.proofs.Places.{get_right}
use Rattle.wasmparser_type_list.specs.IdTypes.{IsWholeGroup}
use Rattle.wasmparser_module_types.specs.ModuleTypes.{IsGroupOf, KnownTypes, ids_of_group}
use Rattle.wasm_gen_view.specs.KnownReferences.{AreIdsOfGroup}

-- ---- ranges

pub range_count : (first count : ℕ) → length (range_with_len first count) ≡ count
range_count first zero = refl
range_count first (suc count) = ap suc (range_count (first + 1) count)

pub range_at : (first count place id : ℕ) → slice_get (range_with_len first count) place ≡ Some id → id ≡ first + place
range_at first zero place id at = absurd cc
range_at first (suc count) zero id at = let one : first ≡ id = cc in omega (arith, one)
range_at first (suc count) (suc place) id at = omega (arith, range_at (first + 1) count place id at)

pub range_there : (first count place : ℕ) → place < count → slice_get (range_with_len first count) place ≡ Some (first + place)
range_there first zero place lt = absurd (omega (arith, lt))
range_there first (suc count) zero lt = ap Some (let e : first ≡ first + 0 = omega arith in e)
range_there first (suc count) (suc place) lt = range_there (first + 1) count place (omega (arith, lt)) ∙ ap Some (let e : first + 1 + place ≡ first + suc place = omega arith in e)

-- an id among others is below their end
pub range_known : (first count : ℕ) (before rest : List ℕ) (id : ℕ) → range_with_len first count ≡ before ++ (id ∷ rest) → id < first + count
range_known first count before rest id e =
    let there : slice_get (before ++ (id ∷ rest)) (length before + 0) ≡ Some id = get_right before (id ∷ rest) 0 in
    let at : slice_get (range_with_len first count) (length before + 0) ≡ Some id = ap (λ xs. slice_get xs (length before + 0)) e ∙ there in
    omega (arith, range_at first count (length before + 0) id at, slice_get_within (range_with_len first count) (length before + 0) id at, range_count first count)

record IsSplit (xs ys : List ℕ) (first count : ℕ) : Type 0 where
  left : xs ≡ range_with_len first (length xs)
  right : ys ≡ range_with_len (first + length xs) (count - length xs)
  few : length xs ≤ count

split : (xs ys : List ℕ) (first count : ℕ) → xs ++ ys ≡ range_with_len first count → IsSplit xs ys first count
split [] ys first count e =
    let at : first ≡ first + 0 = omega arith in
    let left : count ≡ count - 0 = omega arith in
    record { left = refl; right = e ∙ (λ j. range_with_len (at j) (left j)); few = omega arith }
split (x ∷ xs) ys first zero e = absurd cc
split (x ∷ xs) ys first (suc count) e =
    let head : x ≡ first = cc in
    let tail : xs ++ ys ≡ range_with_len (first + 1) count = cc in
    let rest = split xs ys (first + 1) count tail in
    let at : first + 1 + length xs ≡ first + suc (length xs) = omega arith in
    let left : count - length xs ≡ suc count - suc (length xs) = omega arith in
    record {
      left = (λ j. head j ∷ rest.left j);
      right = rest.right ∙ (λ j. range_with_len (at j) (left j));
      few = omega (arith, rest.few);
    }

-- lists that make a range together are ranges
pub contiguous : (groups : List (List ℕ)) (first count : ℕ) → flat_map (λ ids. ids) groups ≡ range_with_len first count → (number : ℕ) (ids : List ℕ) → slice_get groups number ≡ Some ids
    → (start : ℕ) × (ids ≡ range_with_len start (length ids)) × (start + length ids ≤ first + count)
contiguous [] first count e number ids at = absurd cc
contiguous (group ∷ groups) first count e zero ids at =
    let one : group ≡ ids = cc in
    let parts = split group (flat_map (λ ids. ids) groups) first count e in
    subst (λ ids. (start : ℕ) × (ids ≡ range_with_len start (length ids)) × (start + length ids ≤ first + count)) one (first, parts.left, omega (arith, parts.few))
contiguous (group ∷ groups) first count e (suc number) ids at =
    let parts = split group (flat_map (λ ids. ids) groups) first count e in
    let rest = contiguous groups (first + length group) (count - length group) (parts.right) number ids at in
    (rest.0, rest.1, omega (arith, rest.2, parts.few))

-- ---- places

pub place_in : {X : Type 0} (tree : GroupTree) (start place : ℕ) (xs : List X) (type : DefType) → slice_get (places_of tree start xs) place ≡ Some type → type ≡ record { tree = tree; place = start + place }
place_in tree start place [] type at = absurd cc
place_in tree start zero (x ∷ xs) type at =
    let same : record { tree = tree; place = start } ≡ type = cc in
    let e : start ≡ start + 0 = omega arith in
    sym same ∙ ap (λ p. record { tree = tree; place = p }) e
place_in tree start (suc place) (x ∷ xs) type at =
    let e : suc start + place ≡ start + suc place = omega arith in place_in tree (suc start) place xs type at ∙ ap (λ p. record { tree = tree; place = p }) e

-- the type with an id at a place of a whole group
pub type_in_group : (interned : List DefType) (tree : GroupTree) (ids : List ℕ) → map (type_at interned) ids ≡ places_of tree 0 (opened tree) → (place id : ℕ) → slice_get ids place ≡ Some id
    → type_at interned id ≡ record { tree = tree; place = place }
type_in_group interned tree ids whole place id at =
    let there : slice_get (places_of tree 0 (opened tree)) place ≡ Some (type_at interned id) =
    ap (λ ts. slice_get ts place) (sym whole) ∙ slice_get-map (type_at interned) ids place ∙ ap (option_map (type_at interned)) at in
    let e : 0 + place ≡ place = omega arith in
    place_in tree 0 place (opened tree) (type_at interned id) there ∙ ap (λ p. record { tree = tree; place = p }) e

-- ---- the group of an id

module _ (known : KnownTypes) (id group first count : ℕ) (rest : List ℕ) (of : IsGroupOf known id group) (whole : group < length known.interned_groups → IsWholeGroup known.interned (ids_of_group known group))
    (parts : flat_map (λ ids. ids) known.interned_groups ≡ range_with_len 0 (length known.interned)) (ids : ids_of_group known group ≡ first ∷ rest) (counted : count ≡ length (first ∷ rest)) where
  group_there : (found : Option (List ℕ)) → slice_get known.interned_groups group ≡ found → slice_get known.interned_groups group ≡ Some (ids_of_group known group)
  group_there (Some all) e = e ∙ ap Some (sym (ap (λ q. unwrap_or q []) e))
  group_there None e = absurd (let no : first ∷ rest ≡ [] = sym ids ∙ ap (λ q. unwrap_or q []) e in cc)

  there : slice_get known.interned_groups group ≡ Some (ids_of_group known group)
  there = group_there (slice_get known.interned_groups group) refl

  range : (start : ℕ) × (ids_of_group known group ≡ range_with_len start (length (ids_of_group known group))) × (start + length (ids_of_group known group) ≤ 0 + length known.interned)
  range = contiguous known.interned_groups 0 (length known.interned) parts group (ids_of_group known group) there

  count_is : length (ids_of_group known group) ≡ count
  count_is = ap length ids ∙ sym counted

  starts : range.0 ≡ first
  starts =
      let some : 0 < length (ids_of_group known group) = omega (arith, count_is, counted) in
      let at : slice_get (ids_of_group known group) 0 ≡ Some (range.0 + 0) = ap (λ xs. slice_get xs 0) range.1 ∙ range_there range.0 (length (ids_of_group known group)) 0 some in
      let also : slice_get (ids_of_group known group) 0 ≡ Some first = ap (λ xs. slice_get xs 0) ids in
      let same : Some (range.0 + 0) ≡ Some first = sym at ∙ also in
      let one : range.0 + 0 ≡ first = cc in
      omega (arith, one)

  pub ids_are : ids_of_group known group ≡ range_with_len first count
  ids_are = range.1 ∙ (λ j. range_with_len (starts j) (count_is j))

  pub are_ids : AreIdsOfGroup known.interned id first count
  are_ids =
      let it = whole (slice_get_within known.interned_groups group (ids_of_group known group) there) in
      let is : type_at known.interned id ≡ record { tree = it.tree; place = of.0 } = type_in_group known.interned it.tree (ids_of_group known group) it.all of.0 id of.1 in
      let at : slice_get (range_with_len first count) of.0 ≡ Some id = ap (λ xs. slice_get xs of.0) (sym ids_are) ∙ of.1 in
      let place : (type_at known.interned id).place ≡ of.0 = ap (λ (t : DefType). t.place) is in
      record {
        place = omega (arith, place, range_at first count of.0 id at);
        within = omega (arith, place, slice_get_within (range_with_len first count) of.0 id at, range_count first count);
        whole = subst (λ (tree : GroupTree). map (type_at known.interned) (range_with_len first count) ≡ places_of tree 0 (opened tree)) (sym (ap (λ (t : DefType). t.tree) is)) (ap (map (type_at known.interned)) (sym ids_are) ∙ it.all);
        known = omega (arith, range.2, starts, count_is);
      }
