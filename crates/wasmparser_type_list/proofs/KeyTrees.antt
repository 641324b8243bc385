-- Among types none of which has two indexes, a group's tree tells how it was interned: under which key, or without one.
use Rattle.std.proofs.Common.{◌≡◌, ℕ, ◌+◌, ◌-◌, ◌<◌, List, [], ◌∷◌, ◌++◌, length, map, refl, ap, sym, ◌∙◌, arith, Option, Some, None}
use Rattle.std.specs.Prelude.{⊤}
use Rattle.std.proofs.lemmas.List.{length-append}
use Rattle.std.proofs.lemmas.Option.{slice_get_past}
use Rattle.std.specs.List.{slice_get, AllByRecursion}
use Rattle.std.specs.Option.{unwrap_or}
use Rattle.wasm_spec.specs.TypeReferences.{subs_map, subs_refs}
use Rattle.wasm_spec.specs.Trees.{GroupTree, TreeReference, Own, Other, roll, DefType, reference_to, reference_of, no_type, type_at, AreDistinct}
use Rattle.wasm_spec.specs.Types.{SubType}
use Rattle.wasm_spec.proofs.GroupTrees.{all_each, roll-injective, type_kept}
use Rattle.wasm_spec.proofs.Places.{get_some}
use Rattle.wasm_spec.proofs.TypeMaps.{same_subs, subs_map-subs_map, subs_map_agree, subs_refs-map}
use Rattle.wasmparser_types.specs.Index.{Index, Module, RecGroup, Id, number_of}
use Rattle.wasmparser_type_list.specs.TypeTables.{absolute}
use Rattle.wasmparser_type_list.specs.IdTypes.{marked}
use Rattle.wasmparser_type_list.proofs.GroupTypes.{same_type}
use Rattle.wasmparser_type_list.proofs.MarkedTrees.{not_marked, same_mark}

-- ---- maps that are one to one on the references that occur

maps_injective : {R S : Type 0} (P : R → Type 0) (f : R → S) → ((a b : R) → P a → P b → f a ≡ f b → a ≡ b) → (xs ys : List R) → AllByRecursion P xs → AllByRecursion P ys → map f xs ≡ map f ys → xs ≡ ys
maps_injective P f one [] [] h k e = refl
maps_injective P f one [] (y ∷ ys) h k e = absurd cc
maps_injective P f one (x ∷ xs) [] h k e = absurd cc
maps_injective P f one (x ∷ xs) (y ∷ ys) h k e =
    let head : f x ≡ f y = cc in
    let tail : map f xs ≡ map f ys = cc in
    rw (one x y h.0 k.0 head, maps_injective P f one xs ys h.1 k.1 tail)

subs_map_injective : {R S : Type 0} (d : R) (P : R → Type 0) (f : R → S) → ((a b : R) → P a → P b → f a ≡ f b → a ≡ b)
    → (xs ys : List (SubType R)) → AllByRecursion P (subs_refs xs) → AllByRecursion P (subs_refs ys) → subs_map f xs ≡ subs_map f ys → xs ≡ ys
subs_map_injective d P f one xs ys h k e =
    same_subs d xs ys
    (sym (subs_map-subs_map (λ _. tt {0}) f xs) ∙ ap (subs_map (λ _. tt {0})) e ∙ subs_map-subs_map (λ _. tt {0}) f ys)
    (maps_injective P f one (subs_refs xs) (subs_refs ys) h k (sym (subs_refs-map f xs) ∙ ap subs_refs e ∙ subs_refs-map f ys))

-- ---- canonical groups as trees

-- what an index of a canonical group is in its tree
abbrev pub tree_reference : List DefType → Index → TreeReference
tree_reference types (Module n) = Own 0
tree_reference types (RecGroup place) = Own place
tree_reference types (Id n) = Other (type_at types n).tree (type_at types n).place

abbrev pub IsEarlier : ℕ → Index → Type 0
IsEarlier before (Module n) = ⊥
IsEarlier before (RecGroup place) = ⊤
IsEarlier before (Id n) = n < before

reference_is : (types : List DefType) (index : Index) → IsEarlier (length types) index → reference_of types (number_of (absolute (length types) index)) ≡ tree_reference types index
reference_is types (Module n) h = absurd h
reference_is types (RecGroup place) h =
    let past : slice_get types (length types + place) ≡ None = slice_get_past types (length types + place) (omega arith) in
    let own : length types + place - length types ≡ place = omega arith in
    ap (λ q. reference_to q (length types + place - length types)) past ∙ ap Own own
reference_is types (Id n) h =
    let (type, at) = get_some types n h in
    ap (λ q. reference_to q (n - length types)) at ∙ ap (λ q. Other (unwrap_or q no_type).tree (unwrap_or q no_type).place) (sym at)

pub rolled_is : (types : List DefType) (group : List (SubType Index)) → AllByRecursion (IsEarlier (length types)) (subs_refs group)
    → roll (subs_map (reference_of types) (subs_map number_of (subs_map (absolute (length types)) group))) ≡ roll (subs_map (tree_reference types) group)
rolled_is types group earlier =
    let one = subs_map-subs_map number_of (absolute (length types)) group in
    let two = subs_map-subs_map (reference_of types) (λ index. number_of (absolute (length types) index)) group in
    let agree = subs_map_agree (Own 0) (λ index. reference_of types (number_of (absolute (length types) index))) (tree_reference types) group
    (all_each (IsEarlier (length types)) (λ index. reference_of types (number_of (absolute (length types) index)) ≡ tree_reference types index) (reference_is types) (subs_refs group) earlier) in
    ap (λ q. roll (subs_map (reference_of types) q)) one ∙ ap roll (two ∙ agree)

reference_one : (types : List DefType) → AreDistinct types → (a b : Index) → IsEarlier (length types) a → IsEarlier (length types) b → tree_reference types a ≡ tree_reference types b → a ≡ b
reference_one types distinct (Module n) b h k e = absurd h
reference_one types distinct a (Module m) h k e = absurd k
reference_one types distinct (RecGroup n) (RecGroup m) h k e = let places : n ≡ m = cc in ap RecGroup places
reference_one types distinct (RecGroup n) (Id m) h k e = absurd cc
reference_one types distinct (Id n) (RecGroup m) h k e = absurd cc
reference_one types distinct (Id n) (Id m) h k e =
    let trees : (type_at types n).tree ≡ (type_at types m).tree = cc in
    let places : (type_at types n).place ≡ (type_at types m).place = cc in
    let same : type_at types n ≡ type_at types m = same_type (type_at types n) (type_at types m) trees places in
    let (a, at) = get_some types n h in
    let (b, at') = get_some types m k in
    let one : b ≡ a = sym (ap (λ q. unwrap_or q no_type) at') ∙ sym same ∙ ap (λ q. unwrap_or q no_type) at in
    ap Id (distinct n m a at (at' ∙ ap Some one))

-- ---- where a tree comes from

-- the tree of the group with this number, after these types or some of them
pub data Origin (known : List (SubType Index) → Option ℕ) (types : List DefType) (number : ℕ) (tree : GroupTree) : Type 0 where
  by_key : (group : List (SubType Index)) → known group ≡ Some number → AllByRecursion (IsEarlier (length types)) (subs_refs group)
      → tree ≡ roll (subs_map (tree_reference types) group) → Origin known types number tree
  by_mark : (group : List (SubType TreeReference)) → tree ≡ marked number (roll group) → Origin known types number tree

module _ (known : List (SubType Index) → Option ℕ) where
  pub one_number : (types : List DefType) → AreDistinct types → (n m : ℕ) (a b : GroupTree) → Origin known types n a → Origin known types m b → a ≡ b → n ≡ m
  one_number types distinct n m a b (by_key group at earlier is) (by_key other at' earlier' is') e =
      let maps : subs_map (tree_reference types) group ≡ subs_map (tree_reference types) other =
      roll-injective (subs_map (tree_reference types) group) (subs_map (tree_reference types) other) (sym is ∙ e ∙ is') in
      let groups : group ≡ other =
      subs_map_injective (Module 0) (IsEarlier (length types)) (tree_reference types) (reference_one types distinct) group other earlier earlier' maps in
      let some : Some n ≡ Some m = sym at ∙ ap known groups ∙ at' in
      cc
  one_number types distinct n m a b (by_key group at earlier is) (by_mark other is') e =
      absurd (not_marked (subs_map (tree_reference types) group) other m (sym is ∙ e ∙ is'))
  one_number types distinct n m a b (by_mark group is) (by_key other at' earlier' is') e =
      absurd (not_marked (subs_map (tree_reference types) other) group n (sym is' ∙ sym e ∙ is))
  one_number types distinct n m a b (by_mark group is) (by_mark other is') e = same_mark group other n m (sym is ∙ e ∙ is')

  pub still_from : (types more : List DefType) (number : ℕ) (tree : GroupTree) → Origin known types number tree → Origin known (types ++ more) number tree
  still_from types more number tree (by_key group at earlier is) =
      let agree = subs_map_agree (Own 0) (tree_reference types) (tree_reference (types ++ more)) group
      (all_each (IsEarlier (length types)) (λ index. tree_reference types index ≡ tree_reference (types ++ more) index) (same_reference types more) (subs_refs group) earlier) in
      by_key group at (all_each (IsEarlier (length types)) (IsEarlier (length (types ++ more))) (still_earlier types more) (subs_refs group) earlier) (is ∙ ap roll agree) where
        same_reference : (types more : List DefType) (index : Index) → IsEarlier (length types) index → tree_reference types index ≡ tree_reference (types ++ more) index
        same_reference types more (Module n) h = refl
        same_reference types more (RecGroup place) h = refl
        same_reference types more (Id n) h = ap (λ (type : DefType). Other type.tree type.place) (sym (type_kept types more n h))

        still_earlier : (types more : List DefType) (index : Index) → IsEarlier (length types) index → IsEarlier (length (types ++ more)) index
        still_earlier types more (Module n) h = h
        still_earlier types more (RecGroup place) h = h
        still_earlier types more (Id n) h = omega (arith, h, length-append types more)
  still_from types more number tree (by_mark group is) = by_mark group is
