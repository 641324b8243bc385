-- The types of a known group stand, among the types of all ids, where the group's ids are.
use Rattle.std.proofs.Common.{◌≡◌, ℕ, zero, suc, ◌+◌, ◌≤◌, Bool, List, [], ◌∷◌, ◌++◌, length, map, Some, refl, sym, ◌∙◌, subst, arith}
use Rattle.std.proofs.lemmas.List.{append-nil, append_assoc, length-append, length-map}
use Rattle.std.specs.List.{slice_get}
use Rattle.std.specs.declared.ops.Range.{Range}
use Rattle.wasm_spec.proofs.GroupTrees.{length-places_of}
use Rattle.wasm_spec.specs.Syntax.{members}
use Rattle.wasm_spec.specs.TypeReferences.{sub_map}
use Rattle.wasm_spec.specs.Trees.{DefType, places_of, tree_of}
use Rattle.wasm_spec.specs.Types.{RecGroup}
use Rattle.wasmparser_type_list.specs.TypeTables.{AreConsecutive, TablesAgree, TypeTables, sub_types, types_in}
use Rattle.wasmparser_type_list.proofs.KeptGroups.{count_in, ends}
use Rattle.wasmparser_type_list.specs.IdTypes.{group_of, id_types, id_types_after, id_types_from, tree_as}
use Rattle.wasmparser_types.specs.Index.{number_of}
use Rattle.wasmparser_types.specs.SubTypes.{sub_type}

-- The group's types come after those with smaller ids. is_canonical: whether it counts as canonical.
pub record StandsAt (is_canonical : Bool) (number : ℕ) (all : List DefType) (start : ℕ) (group : RecGroup ℕ) : Type 0 where
  pub front : List DefType
  pub rest : List DefType
  pub length_is : length front ≡ start
  pub all_is : all ≡ (front ++ places_of (tree_as is_canonical number (tree_of front group)) 0 (members group)) ++ rest

module _ (canonical : ℕ → Bool) where
  begins_with : (number : ℕ) (before : List DefType) (groups : List (RecGroup ℕ)) → (rest : List DefType) × (id_types_from canonical number before groups ≡ before ++ rest)
  begins_with number before [] = ([], sym (append-nil before))
  begins_with number before (group ∷ groups) =
      let places = places_of (tree_as (canonical number) number (tree_of before group)) 0 (members group) in
      let more = begins_with (suc number) (before ++ places) groups in
      (places ++ more.0, more.1 ∙ append_assoc before places more.0)

  module _ (tables : TypeTables) where
    types_count : length (sub_types tables) ≡ length tables.types
    types_count = length-map tables.types sub_type

    after_count : (number start : ℕ) (before : List DefType) (range : Range ℕ) → length before ≡ start → range.start ≡ start → range.start ≤ range.end → range.end ≤ length tables.types
        → length (id_types_after (canonical number) number before (group_of tables range)) ≡ range.end
    after_count number start before range is first order last =
        let group = group_of tables range in
        let tree = tree_as (canonical number) number (tree_of before group) in
        let counted = count_in tables range order (omega (arith, last, types_count)) in
        omega (arith, is, first, order, counted, length-append before (places_of tree 0 (members group)), length-places_of tree 0 (members group), length-map (types_in tables range) (sub_map number_of))

    stands_from : (number start : ℕ) (before : List DefType) (ranges : List (Range ℕ)) → length before ≡ start → AreConsecutive start ranges (length tables.types)
        → (place : ℕ) (range : Range ℕ) → slice_get ranges place ≡ Some range
        → StandsAt (canonical (number + place)) (number + place) (id_types_from canonical number before (map (group_of tables) ranges)) range.start (group_of tables range)
    stands_from number start before [] is are place range at = absurd cc
    stands_from number start before (first ∷ ranges) is are zero range at =
        let one : first ≡ range = cc in
        let here : number ≡ number + 0 = omega arith in
        let after = id_types_after (canonical number) number before (group_of tables first) in
        let more = begins_with (suc number) after (map (group_of tables) ranges) in
        let all = id_types_from canonical (suc number) after (map (group_of tables) ranges) in
        let stands : StandsAt (canonical number) number all first.start (group_of tables first) =
        record { front = before; rest = more.0; length_is = omega (arith, is, are.0); all_is = more.1 } in
        subst (λ r. StandsAt (canonical (number + 0)) (number + 0) all r.start (group_of tables r)) one (subst (λ n. StandsAt (canonical n) n all first.start (group_of tables first)) here stands)
    stands_from number start before (first ∷ ranges) is are (suc place) range at =
        let here : suc number + place ≡ number + suc place = omega arith in
        let after = id_types_after (canonical number) number before (group_of tables first) in
        let all = id_types_from canonical (suc number) after (map (group_of tables) ranges) in
        let last = ends first.end ranges (length tables.types) are.2 in
        subst (λ n. StandsAt (canonical n) n all range.start (group_of tables range)) here
        (stands_from (suc number) first.end after ranges (after_count number start before first is are.0 are.1 last) are.2 place range at)

    pub stands_at : TablesAgree tables → (number : ℕ) (range : Range ℕ) → slice_get tables.groups number ≡ Some range
        → StandsAt (canonical number) number (id_types canonical tables) range.start (group_of tables range)
    stands_at agree number range at =
        let here : 0 + number ≡ number = omega arith in
        subst (λ n. StandsAt (canonical n) n (id_types canonical tables) range.start (group_of tables range)) here (stands_from 0 0 [] tables.groups refl agree.groups number range at)
