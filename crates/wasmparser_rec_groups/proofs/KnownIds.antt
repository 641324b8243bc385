-- Ids that are known stay known, and so are those of a group.
use Rattle.std.proofs.Common.{◌≡◌, ℕ, zero, suc, ◌+◌, ◌-◌, ◌<◌, ◌≤◌, Bool, true, false, List, [], ◌∷◌, ◌++◌, length, Option, Some, None, IfSome, refl, sym, ap, ◌∙◌, subst, arith, slice_get}
use Rattle.std.proofs.lemmas.List.{length-append, length-map}
use Rattle.std.specs.List.{AllByRecursion, range_with_len}
use Rattle.std.specs.declared.ops.Range.{Range}
use Rattle.wasm_spec.proofs.GroupTrees.{all_each}
use Rattle.wasm_spec.specs.Features.{Features, needs_type_canonicalization}
use Rattle.wasm_spec.specs.TypeReferences.{sub_map}
use Rattle.wasm_spec.specs.Types.{SubType, RecGroup}
use Rattle.wasmparser_error.specs.declared.error.Error.{Error}
use Rattle.wasmparser_type_relations.specs.Canonical.{canonical_index}
use Rattle.wasmparser_type_list.proofs.Agreement.{group_within, now_at, range_of}
use Rattle.std.proofs.lemmas.List.FromFn.{length-range_with_len}
use Rattle.wasmparser_type_list.specs.TypeTables.{Interns, IsGroupAt, TablesAgree, TypeTables, group_ids, ids_in, known_group}
use Rattle.wasmparser_rec_groups.proofs.CanonicalGroups.{members_mapped, within}
use Rattle.wasmparser_rec_groups.specs.Interning.{AreKnown, CanBeInterned, NamesModuleTypes, Refuses, as_written, canonical_members, has_no_room, is_refused, out_of_memory}
use Rattle.wasmparser_types.specs.Index.{Index}
use Rattle.wasmparser_types.specs.RecGroups.{members}

-- ---- known ids stay known

no_fewer : (old new : TypeTables) (canonical is_new : Bool) (group : List (SubType Index)) (number : ℕ) → Interns old new canonical group is_new number → length old.types ≤ length new.types
no_fewer old new canonical true group number interned =
    let kept = interned.adds.kept in omega (arith, ap length kept.1, length-append old.types kept.0)
no_fewer old new canonical false group number interned = let same = ap (λ (t : TypeTables). length t.types) interned.1 in omega (arith, same)

still_known : (old new : TypeTables) (ids : List ℕ) → length old.types ≤ length new.types → AreKnown old ids → AreKnown new ids
still_known old new ids more known = all_each (λ id. id < length old.types) (λ id. id < length new.types) (λ id h. omega (arith, h, more)) ids known

pub known_after_refusal : (features : Features) (ids : List ℕ) (old new : TypeTables) (group : RecGroup Index) (offset : ℕ) (e : Error) → Refuses features ids old new group offset e
    → AreKnown old ids → AreKnown new ids
known_after_refusal features ids old new group offset e (as_written _ written same) known = subst (λ t. AreKnown t ids) (sym same) known
known_after_refusal features ids old new group offset e (has_no_room internable none same) known = subst (λ t. AreKnown t ids) (sym same) known
known_after_refusal features ids old new group offset e (is_refused is_new number kind internable room interned refused) known =
    still_known old new ids (no_fewer old new _ is_new _ number interned) known
known_after_refusal features ids old new group offset e (out_of_memory internable few same) known = subst (λ t. AreKnown t ids) (sym same) known

-- ---- the ids of a group

pub canonical_count : (ids : List ℕ) (group : RecGroup Index) → length (canonical_members ids group) ≡ length (members group)
canonical_count ids group = ap length (members_mapped (canonical_index ids) group) ∙ length-map (members group) (sub_map (canonical_index ids))

below_end : (first count limit : ℕ) → first + count ≤ limit → AllByRecursion (λ id. id < limit) (range_with_len first count)
below_end first zero limit h = tt
below_end first (suc count) limit h = (omega (arith, h), below_end (first + 1) count limit (omega (arith, h)))

group_known : (tables : TypeTables) (number : ℕ) → TablesAgree tables → AreKnown tables (group_ids tables number)
group_known tables number agree = go (slice_get tables.groups number) refl where
  go : (o : Option (Range ℕ)) → slice_get tables.groups number ≡ o → AllByRecursion (λ id. id < length tables.types) (ids_in o)
  go None none = tt
  go (Some range) at =
      let order = range_of tables number range agree at in
      let ends = group_within 0 tables.groups (length tables.types) number range agree.groups at in
      below_end range.start (range.end - range.start) (length tables.types) (omega (arith, order.0, ends))

join : (P : ℕ → Type 0) (xs ys : List ℕ) → AllByRecursion P xs → AllByRecursion P ys → AllByRecursion P (xs ++ ys)
join P [] ys h k = k
join P (x ∷ xs) ys h k = (h.0, join P xs ys h.1 k)

module _ (features : Features) (ids : List ℕ) (old new : TypeTables) (group : RecGroup Index) (number : ℕ) (agree : TablesAgree old) (now : TablesAgree new) (known : AreKnown old ids)
    (names : NamesModuleTypes group) (internable : CanBeInterned features ids old group) (is_new : Bool) (interned : Interns old new (needs_type_canonicalization features) (canonical_members ids group) is_new number) where
  pub known_after : (new_ids : List ℕ) → new_ids ≡ ids ++ group_ids new number → AreKnown new new_ids
  known_after new_ids is =
      subst (AreKnown new) (sym is)
      (join (λ id. id < length new.types) ids (group_ids new number) (still_known old new ids (no_fewer old new _ is_new _ number interned) known) (group_known new number now))

  count_at : (members : List (SubType Index)) → IsGroupAt new number members → length (group_ids new number) ≡ length members
  count_at types at =
      let counted = length-range_with_len at.start (at.start + length types - at.start) in
      let rest : at.start + length types - at.start ≡ length types = omega arith in
      ap (λ o. length (ids_in o)) at.at ∙ counted ∙ rest

  -- the group stands under its number
  pub group_at : IsGroupAt new number (canonical_members ids group)
  group_at = go is_new interned where
    found : (o : Option ℕ) → o ≡ Some number → IfSome o (λ n. IsGroupAt new n (canonical_members ids group)) → IsGroupAt new number (canonical_members ids group)
    found None is h = absurd cc
    found (Some n) is h = let one : n ≡ number = cc in subst (λ m. IsGroupAt new m (canonical_members ids group)) one h

    go : (is_new : Bool) → Interns old new (needs_type_canonicalization features) (canonical_members ids group) is_new number → IsGroupAt new number (canonical_members ids group)
    go true interned = now_at old new (canonical_members ids group) number agree interned.adds (within features ids old group known names internable)
    go false interned =
        found (known_group new.known (canonical_members ids group)) (ap (λ (t : TypeTables). known_group t.known (canonical_members ids group)) interned.1 ∙ interned.2)
        (now.known (canonical_members ids group))

  pub group_count : length (group_ids new number) ≡ length (members group)
  group_count = count_at (canonical_members ids group) group_at ∙ canonical_count ids group
