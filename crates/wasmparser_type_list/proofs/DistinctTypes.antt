-- No type has two ids, where groups that count as canonical are found by their keys.
use Rattle.std.proofs.Common.{◌≡◌, ℕ, suc, ◌+◌, ◌<◌, Bool, true, false, List, [], ◌∷◌, ◌++◌, length, refl, ap, sym, ◌∙◌, arith, inl, inr, subst, Option, Some}
use Rattle.std.specs.Prelude.{⊤}
use Rattle.std.proofs.lemmas.List.{length-append}
use Rattle.std.specs.List.{slice_get, AllByRecursion}
use Rattle.wasm_spec.specs.Syntax.{members}
use Rattle.wasm_spec.specs.TypeReferences.{subs_map, subs_refs}
use Rattle.wasm_spec.specs.Trees.{GroupTree, roll, DefType, reference_of, tree_of, places_of, AreDistinct}
use Rattle.wasm_spec.specs.Types.{SubType, RecGroup}
use Rattle.wasm_spec.proofs.GroupTrees.{length-places_of}
use Rattle.wasm_spec.proofs.Places.{get_cases}
use Rattle.wasmparser_types.specs.Index.{Index, number_of}
use Rattle.wasmparser_type_list.specs.TypeTables.{absolute}
use Rattle.wasmparser_type_list.specs.IdTypes.{id_types_from, tree_as}
use Rattle.wasmparser_type_list.proofs.GroupTypes.{own_place}
use Rattle.wasmparser_type_list.proofs.KeyTrees.{IsEarlier, Origin, by_key, by_mark, one_number, rolled_is, still_from}

-- a group after so many types is that of a canonical one that is known under this number
pub record HasForm (known : List (SubType Index) → Option ℕ) (before number : ℕ) (group : List (SubType ℕ)) : Type 0 where
  pub form : List (SubType Index)
  pub known_as : known form ≡ Some number
  pub is : group ≡ subs_map number_of (subs_map (absolute before) form)
  pub earlier : AllByRecursion (IsEarlier before) (subs_refs form)

-- so are those among these groups that count as canonical
abbrev pub HaveForms : (List (SubType Index) → Option ℕ) → (ℕ → Bool) → ℕ → ℕ → List (RecGroup ℕ) → Type 0
HaveForms known canonical number before [] = ⊤
HaveForms known canonical number before (group ∷ groups) =
    (canonical number ≡ true → HasForm known before number (members group)) × HaveForms known canonical (suc number) (before + length (members group)) groups

-- so many groups have these types
record AreApart (known : List (SubType Index) → Option ℕ) (count : ℕ) (types : List DefType) : Type 0 where
  pub distinct : AreDistinct types
  pub origins : (i : ℕ) (type : DefType) → slice_get types i ≡ Some type → (number : ℕ) × (number < count) × Origin known types number type.tree

module _ (known : List (SubType Index) → Option ℕ) where
  tree_from : (is_canonical : Bool) (number : ℕ) (types : List DefType) (group : RecGroup ℕ) → (is_canonical ≡ true → HasForm known (length types) number (members group))
      → Origin known types number (tree_as is_canonical number (tree_of types group))
  tree_from true number types group form =
      let it = form refl in
      by_key it.form it.known_as it.earlier (ap (λ q. roll (subs_map (reference_of types) q)) it.is ∙ rolled_is types it.form it.earlier)
  tree_from false number types group form = by_mark (subs_map (reference_of types) (members group)) refl

  apart_after : {X : Type 0} (number : ℕ) (types : List DefType) (tree : GroupTree) (xs : List X) → AreApart known number types → Origin known types number tree
      → AreApart known (suc number) (types ++ places_of tree 0 xs)
  apart_after number types tree xs apart from = record {
    distinct = λ i j type e e'. elim (get_cases types places i type e) [
      | inl at ↦ elim (get_cases types places j type e') [
        | inl at' ↦ apart.distinct i j type at at'
        | inr at' ↦ absurd (not_new i type at at'.0 at'.2)
      ]
      | inr at ↦ elim (get_cases types places j type e') [
        | inl at' ↦ absurd (not_new j type at' at.0 at.2)
        | inr at' ↦ omega (arith, at.1, at'.1, (own_place tree 0 xs at.0 type at.2).1, (own_place tree 0 xs at'.0 type at'.2).1)
      ]
    ];
    origins = λ i type e. elim (get_cases types places i type e) [
      | inl at ↦
          let was = apart.origins i type at in
          (was.0, omega (arith, was.1), still_from known types places was.0 type.tree was.2)
      | inr at ↦
          (number, omega arith, subst (Origin known (types ++ places) number) (sym (own_place tree 0 xs at.0 type at.2).0) (still_from known types places number tree from))
    ];
  } where
    places : List DefType
    places = places_of tree 0 xs

    -- a type that was there is none of the new ones
    not_new : (i : ℕ) (type : DefType) → slice_get types i ≡ Some type → (j : ℕ) → slice_get (places_of tree 0 xs) j ≡ Some type → ⊥
    not_new i type at j at' =
        let was = apart.origins i type at in
        let one : was.0 ≡ number = one_number known types apart.distinct was.0 number type.tree tree was.2 from (own_place tree 0 xs j type at').0 in
        absurd (omega (arith, one, was.1))

  apart_from : (canonical : ℕ → Bool) (number : ℕ) (groups : List (RecGroup ℕ)) (types : List DefType) → AreApart known number types → HaveForms known canonical number (length types) groups
      → AreDistinct (id_types_from canonical number types groups)
  apart_from canonical number [] types apart forms = apart.distinct
  apart_from canonical number (group ∷ groups) types apart forms =
      let tree = tree_as (canonical number) number (tree_of types group) in
      let after = types ++ places_of tree 0 (members group) in
      let count : length after ≡ length types + length (members group) = omega (arith, length-append types (places_of tree 0 (members group)), length-places_of tree 0 (members group)) in
      let rest : HaveForms known canonical (suc number) (length after) groups = rw count forms.1 in
      apart_from canonical (suc number) groups after (apart_after number types tree (members group) apart (tree_from (canonical number) number types group forms.0)) rest

  pub all_apart : (canonical : ℕ → Bool) (groups : List (RecGroup ℕ)) → HaveForms known canonical 0 0 groups → AreDistinct (id_types_from canonical 0 [] groups)
  all_apart canonical groups forms = apart_from canonical 0 groups [] (record { distinct = λ i j type e e'. absurd cc; origins = λ i type e. absurd cc }) forms
