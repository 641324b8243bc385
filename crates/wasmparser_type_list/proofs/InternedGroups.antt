-- What interning adds to the groups of tables and to the types of ids.
use Rattle.std.proofs.Common.{◌≡◌, ◌≢◌, ℕ, suc, ◌+◌, ◌-◌, ◌≤◌, Bool, true, false, List, [], ◌∷◌, ◌++◌, length, map, take, drop, refl, ap, sym, ◌∙◌, arith, Some, None}
use Rattle.std.proofs.Math.Seq.{drop-append_seam}
use Rattle.std.proofs.lemmas.List.{drop-append-le, length-drop, length-map, map-append, take-append-le, take_all}
use Rattle.std.specs.declared.ops.Range.{Range}
use Rattle.wasm_spec.specs.TypeReferences.{sub_map, subs_map}
use Rattle.wasm_spec.specs.Trees.{DefType}
use Rattle.wasm_spec.specs.Types.{SubType, RecGroup, Group}
use Rattle.wasmparser_types.specs.Index.{Index, number_of}
use Rattle.wasmparser_types.specs.SubTypes.{sub_type}
use Rattle.wasmparser_type_list.specs.TypeTables.{Adds, AreConsecutive, Interns, TablesAgree, TypeTables, absolute, known_group, range_after, sub_types, types_in}
use Rattle.wasmparser_type_list.specs.IdTypes.{IsFoundByKey, group_after, group_of, groups_of, id_types, id_types_after, id_types_from}
use Rattle.wasmparser_type_list.proofs.KeptGroups.{ends}

-- ---- one group more

more_from : (canonical : ℕ → Bool) (number : ℕ) (groups : List (RecGroup ℕ)) (group : RecGroup ℕ) (before : List DefType)
    → id_types_from canonical number before (groups ++ group ∷ [])
    ≡ id_types_after (canonical (number + length groups)) (number + length groups) (id_types_from canonical number before groups) group
more_from canonical number [] group before =
    let none : number ≡ number + 0 = omega arith in ap (λ n. id_types_after (canonical n) n before group) none
more_from canonical number (first ∷ groups) group before =
    let after = id_types_after (canonical number) number before first in
    let next : suc number + length groups ≡ number + suc (length groups) = omega arith in
    more_from canonical (suc number) groups group after
    ∙ ap (λ n. id_types_after (canonical n) n (id_types_from canonical (suc number) after groups) group) next

module _ (old new : TypeTables) (group : List (SubType Index)) (number : ℕ) (agree : TablesAgree old) (adds : Adds old new group number) where
  added : List (SubType Index)
  added = subs_map (absolute (length old.types)) group

  old_count : length (sub_types old) ≡ length old.types
  old_count = length-map old.types sub_type

  same_groups : (start : ℕ) (ranges : List (Range ℕ)) → AreConsecutive start ranges (length old.types) → map (group_of new) ranges ≡ map (group_of old) ranges
  unfolding added
  same_groups start [] are = refl
  same_groups start (range ∷ ranges) are =
      let last = ends range.end ranges (length old.types) are.2 in
      let count = range.end - range.start in
      let dropped = drop-append-le range.start (sub_types old) added (omega (arith, last, are.1, old_count)) in
      let enough : count ≤ length (drop range.start (sub_types old)) = omega (arith, last, are.1, old_count, length-drop range.start (sub_types old)) in
      let one : types_in new range ≡ types_in old range =
      ap (λ q. take count (drop range.start q)) adds.types ∙ ap (take count) dropped ∙ take-append-le count (drop range.start (sub_types old)) added enough in
      ap (λ q. Group (subs_map number_of q) ∷ map (group_of new) ranges) one ∙ ap (λ q. group_of old range ∷ q) (same_groups range.end ranges are.2)

  last_group : group_of new (range_after (length old.types) (length group)) ≡ group_after (length old.types) group
  unfolding added
  last_group =
      let count : length old.types + length group - length old.types ≡ length added = omega (arith, length-map group (sub_map (absolute (length old.types)))) in
      ap (λ q. Group (subs_map number_of q))
      (ap (λ q. take (length old.types + length group - length old.types) (drop (length old.types) q)) adds.types
      ∙ ap (λ n. take (length old.types + length group - length old.types) (drop n (sub_types old ++ added))) (sym old_count)
      ∙ ap (take (length old.types + length group - length old.types)) (drop-append_seam (sub_types old) added)
      ∙ ap (λ n. take n added) count ∙ take_all (length added) added (omega arith))

  groups_more : groups_of new ≡ groups_of old ++ group_after (length old.types) group ∷ []
  groups_more =
      ap (map (group_of new)) adds.groups ∙ map-append (group_of new) old.groups (range_after (length old.types) (length group) ∷ [])
      ∙ ap (λ q. q ++ group_of new (range_after (length old.types) (length group)) ∷ []) (same_groups 0 old.groups agree.groups)
      ∙ ap (λ q. groups_of old ++ q ∷ []) last_group

  pub types_more : (canonical : ℕ → Bool) → id_types canonical new ≡ id_types_after (canonical number) number (id_types canonical old) (group_after (length old.types) group)
  types_more canonical =
      let last : 0 + length (groups_of old) ≡ number = omega (arith, adds.number_is, length-map old.groups (group_of old)) in
      ap (id_types_from canonical 0 []) groups_more ∙ more_from canonical 0 (groups_of old) (group_after (length old.types) group) []
      ∙ ap (λ n. id_types_after (canonical n) n (id_types canonical old) (group_after (length old.types) group)) last

-- ---- what is found by its key

pub interned_found : (old new : TypeTables) (group : List (SubType Index)) (is_new : Bool) (number : ℕ) → Interns old new true group is_new number → IsFoundByKey new number
interned_found old new group true number interns = (group, interns.known refl)
interned_found old new group false number interns = (group, ap (λ (t : TypeTables). known_group t.known group) interns.1 ∙ interns.2)

pub still_found : (old new : TypeTables) (canonical : Bool) (group : List (SubType Index)) (is_new : Bool) (number other : ℕ) → Interns old new canonical group is_new number
    → IsFoundByKey old other → IsFoundByKey new other
still_found old new canonical group true number other interns at =
    let form = at.0 in
    let differs : canonical ≡ true → form ≢ group =
    λ is same. absurd (let none = interns.unknown is in let some = ap (known_group old.known) (sym same) ∙ at.1 in let both : None ≡ Some other = sym none ∙ some in cc) in
    (form, interns.others form differs ∙ at.1)
still_found old new canonical group false number other interns at = (at.0, ap (λ (t : TypeTables). known_group t.known at.0) interns.1 ∙ at.1)
