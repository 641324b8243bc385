-- The ids of a group's types stand for all types of one tree.
use Rattle.std.proofs.Common.{◌≡◌, ℕ, zero, suc, ◌+◌, ◌-◌, ◌<◌, Bool, List, [], ◌∷◌, ◌++◌, length, map, Some, refl, sym, ap, ◌∙◌, subst, arith}
use Rattle.std.proofs.lemmas.List.{append_assoc, length-append, length-map}
use Rattle.std.specs.List.{range_with_len, slice_get}
use Rattle.std.specs.Option.{unwrap_or}
use Rattle.std.specs.declared.ops.Range.{Range}
use Rattle.wasm_spec.proofs.GroupTrees.{length-places_of}
use Rattle.wasm_spec.proofs.Places.{get_right}
use Rattle.wasm_spec.specs.Syntax.{members}
use Rattle.wasm_spec.specs.Trees.{DefType, GroupTree, no_type, opened, places_of, reference_of, tree_of, type_at}
use Rattle.wasm_spec.specs.TypeReferences.{sub_map, subs_map}
use Rattle.wasm_spec.specs.Types.{RecGroup}
use Rattle.wasmparser_type_list.specs.TypeTables.{AreConsecutive, TablesAgree, TypeTables, group_ids, ids_in, sub_types, types_in}
use Rattle.wasmparser_type_list.proofs.KeptGroups.{count_in, ends}
use Rattle.wasmparser_type_list.proofs.LaterGroups.{front_from}
use Rattle.wasmparser_type_list.proofs.MarkedTrees.{opened-as}
use Rattle.wasmparser_type_list.specs.IdTypes.{IsWholeGroup, group_of, id_types, id_types_from, tree_as}
use Rattle.wasmparser_types.specs.Index.{number_of}
use Rattle.wasmparser_types.specs.SubTypes.{sub_type}

-- items between others, by their places
middle_items : (front own more : List DefType) → map (type_at (front ++ (own ++ more))) (range_with_len (length front) (length own)) ≡ own
middle_items front [] more = refl
middle_items front (type ∷ own) more =
    let all = front ++ type ∷ (own ++ more) in
    let here : slice_get all (length front) ≡ Some type =
    let none : length front + 0 ≡ length front = omega arith in subst (λ n. slice_get all n ≡ Some type) none (get_right front (type ∷ (own ++ more)) 0) in
    let moved : all ≡ (front ++ type ∷ []) ++ (own ++ more) = sym (append_assoc front (type ∷ []) (own ++ more)) in
    let count : length front + 1 ≡ length (front ++ type ∷ []) = omega (arith, length-append front (type ∷ [])) in
    ap (λ o. unwrap_or o no_type ∷ map (type_at all) (range_with_len (length front + 1) (length own))) here
    ∙ ap (λ q. type ∷ map (type_at q) (range_with_len (length front + 1) (length own))) moved
    ∙ ap (λ n. type ∷ map (type_at ((front ++ type ∷ []) ++ (own ++ more))) (range_with_len n (length own))) count
    ∙ ap (λ q. type ∷ q) (middle_items (front ++ type ∷ []) own more)

-- places are told by the number of items alone
same_places : {X Y : Type 0} (tree : GroupTree) (place : ℕ) (f : X → Y) (xs : List X) → places_of tree place xs ≡ places_of tree place (map f xs)
same_places tree place f [] = refl
same_places tree place f (x ∷ xs) = ap (λ q. record { tree = tree; place = place } ∷ q) (same_places tree (suc place) f xs)

module _ (canonical : ℕ → Bool) (tables : TypeTables) where
  -- the tree of a group
  abbrev tree_at : ℕ → List DefType → Range ℕ → GroupTree
  tree_at number before range = tree_as (canonical number) number (tree_of before (group_of tables range))

  abbrev own_types : ℕ → List DefType → Range ℕ → List DefType
  own_types number before range = places_of (tree_at number before range) 0 (members (group_of tables range))

  own_count : (number : ℕ) (before : List DefType) (range : Range ℕ) → length (types_in tables range) ≡ range.end - range.start → length (own_types number before range) ≡ range.end - range.start
  own_count number before range count =
      length-places_of (tree_at number before range) 0 (members (group_of tables range)) ∙ length-map (types_in tables range) (sub_map number_of) ∙ count

  own_opened : (number : ℕ) (before : List DefType) (range : Range ℕ) → own_types number before range ≡ places_of (tree_at number before range) 0 (opened (tree_at number before range))
  own_opened number before range =
      let types = members (group_of tables range) in
      same_places (tree_at number before range) 0 (sub_map (reference_of before)) types
      ∙ ap (places_of (tree_at number before range) 0) (sym (opened-as (canonical number) number (subs_map (reference_of before) types)))

  first_whole : (number : ℕ) (before : List DefType) (range : Range ℕ) (groups : List (RecGroup ℕ)) → length before ≡ range.start → length (types_in tables range) ≡ range.end - range.start
      → IsWholeGroup (id_types_from canonical number before (group_of tables range ∷ groups)) (ids_in (Some range))
  first_whole number before range groups start count =
      let own = own_types number before range in
      let rest = front_from canonical groups (suc number) (before ++ own) in
      let all : id_types_from canonical (suc number) (before ++ own) groups ≡ before ++ (own ++ rest.0) = rest.1 ∙ append_assoc before own rest.0 in
      let ids : range_with_len range.start (range.end - range.start) ≡ range_with_len (length before) (length own) =
      ap (λ n. range_with_len n (range.end - range.start)) (sym start) ∙ ap (range_with_len (length before)) (sym (own_count number before range count)) in
      record {
        tree = tree_at number before range;
        all =
            ap (map (type_at (id_types_from canonical (suc number) (before ++ own) groups))) ids
            ∙ ap (λ q. map (type_at q) (range_with_len (length before) (length own))) all ∙ middle_items before own rest.0 ∙ own_opened number before range;
      }

  after_first : (number : ℕ) (before : List DefType) (range : Range ℕ) (ranges : List (Range ℕ)) → AreConsecutive (length before) (range ∷ ranges) (length (sub_types tables))
      → AreConsecutive (length (before ++ own_types number before range)) ranges (length (sub_types tables))
  after_first number before range ranges are =
      let count = count_in tables range are.1 (ends range.end ranges (length (sub_types tables)) are.2) in
      let end : range.end ≡ length (before ++ own_types number before range) =
      omega (arith, length-append before (own_types number before range), own_count number before range count, are.0, are.1) in
      subst (λ n. AreConsecutive n ranges (length (sub_types tables))) end are.2

  whole_from : (number : ℕ) (before : List DefType) (ranges : List (Range ℕ)) (place : ℕ) → AreConsecutive (length before) ranges (length (sub_types tables)) → place < length ranges
      → IsWholeGroup (id_types_from canonical number before (map (group_of tables) ranges)) (ids_in (slice_get ranges place))
  whole_from number before [] place are within = absurd (omega (arith, within))
  whole_from number before (range ∷ ranges) zero are within =
      first_whole number before range (map (group_of tables) ranges) (sym are.0) (count_in tables range are.1 (ends range.end ranges (length (sub_types tables)) are.2))
  whole_from number before (range ∷ ranges) (suc place) are within =
      whole_from (suc number) (before ++ own_types number before range) ranges place (after_first number before range ranges are) (omega (arith, within))

pub whole_groups : (canonical : ℕ → Bool) (tables : TypeTables) (number : ℕ) → TablesAgree tables → number < length tables.groups → IsWholeGroup (id_types canonical tables) (group_ids tables number)
whole_groups canonical tables number agree within =
    whole_from canonical tables 0 [] tables.groups number (subst (AreConsecutive 0 tables.groups) (sym (length-map tables.types sub_type)) agree.groups) within
