-- What a list that knows a module's types knows after a group was accepted.
use Rattle.std.proofs.Common.{◌≡◌, ℕ, suc, ◌+◌, ◌≤◌, true, false, List, [], length, is_some, refl, sym, ap, ◌∙◌, subst, arith, slice_get}
use Rattle.std.proofs.lemmas.Bool.{leb-true}
use Rattle.std.proofs.lemmas.List.{length-map}
use Rattle.wasm_spec.proofs.GroupTrees.{length-types_after}
use Rattle.wasm_spec.proofs.Places.{all_get}
use Rattle.wasm_spec.specs.Features.{Features, needs_type_canonicalization}
use Rattle.wasm_spec.specs.Groups.{IsWellFormedGroup, PassesLimit}
use Rattle.wasm_spec.specs.Limits.{Limit, Types, Groups, most}
use Rattle.wasm_spec.specs.Syntax as syntax
use Rattle.wasm_spec.specs.TypeReferences.{sub_map}
use Rattle.wasm_spec.specs.Trees.{AreDistinct, DefType, type_at, types_after, types_of_group, unrolled}
use Rattle.wasm_spec.specs.Types.{RecGroup, Single, Group}
use Rattle.wasmparser_type_relations.specs.Chains.{AreBelowEarlier}
use Rattle.wasmparser_type_list.specs.TypeTables.{TablesAgree, TypeTables, committed, has_room, no_types, sub_types}
use Rattle.wasmparser_type_list.proofs.IdLaws.{id_count, ids_distinct}
use Rattle.wasmparser_type_list.specs.IdTypes.{AreFoundByKey, RefersToNoModule, id_types}
use Rattle.wasmparser_module_types.specs.History.{Enters, HasRoom}
use Rattle.wasmparser_module_types.specs.ModuleTypes.{AddsGroup, KnowsModule, all_groups, interned_types, known_types, module_types}
use Rattle.wasmparser_rec_groups.specs.Contexts.{IsGroupOfModule, in_section}
use Rattle.wasmparser_rec_groups.proofs.KnownIds.{canonical_count}
use Rattle.wasmparser_rec_groups.specs.Interning.{AreKnown, NamesModuleTypes, canonical_members}
use Rattle.wasmparser_types.specs.Index.{Index, number_of}
use Rattle.wasmparser_types.specs.RecGroups.{members}

-- ---- counts

pub section_count : (group : RecGroup Index) → length (syntax.members (in_section group)) ≡ length (members group)
section_count (Single type) = refl
section_count (Group types) = length-map types (sub_map number_of)

module_count : (list : TypeTables) (ids : List ℕ) → length (module_types list ids) ≡ length ids
module_count list ids = length-map ids (type_at (id_types all_groups list))

pub after_count : (list : TypeTables) (ids : List ℕ) (group : RecGroup Index) → length (types_after (module_types list ids) (in_section group)) ≡ length ids + length (members group)
after_count list ids group =
    omega (arith, length-types_after (module_types list ids) (in_section group), module_count list ids, section_count group)

-- a list has room for a group where interning finds some
pub has_room_for : (list : TypeTables) (ids : List ℕ) (group : RecGroup Index) (own : List DefType) → TablesAgree list → has_room list (canonical_members ids group) ≡ true
    → length own ≡ length (syntax.members (in_section group)) → HasRoom (interned_types list) own
has_room_for list ids group own agree room count =
    let within = leb-true (length list.types + length (canonical_members ids group)) 1048576 room in
    omega (arith, within, count, section_count group, canonical_count ids group, id_count all_groups list agree)

-- ---- what is known

pub of_module : (features : Features) (ids : List ℕ) (old new : TypeTables) (group : RecGroup Index) → KnowsModule features old ids → NamesModuleTypes group → TablesAgree new
    → IsGroupOfModule old new ids group
of_module features ids old new group knows names now = record { agree = knows.agree; now = now; none = knows.no_module; known = knows.known; names = names }

pub still_knows : (features : Features) (ids new_ids : List ℕ) (old new : TypeTables) (group : RecGroup Index) → TablesAgree new → AreBelowEarlier (slice_get (sub_types new))
    → AreKnown new new_ids → RefersToNoModule new → (needs_type_canonicalization features ≡ true → AreFoundByKey all_groups new)
    → module_types new new_ids ≡ types_after (module_types old ids) (in_section group) → length ids + length (members group) ≤ most Types
    → KnowsModule features new new_ids
still_knows features ids new_ids old new group agree earlier known none found types room =
    let count : length new_ids ≡ length ids + length (members group) = sym (module_count new new_ids) ∙ ap length types ∙ after_count old ids group in
    record {
      agree = agree;
      earlier = earlier;
      known = known;
      no_module = none;
      found = λ needs grows. found needs;
      distinct = λ needs. ids_distinct new agree none all_groups (found needs);
      within = omega (arith, count, room);
    }

-- a list without types knows a module without types
pub knows_nothing : (features : Features) (list : TypeTables) → list ≡ no_types → TablesAgree list → KnowsModule features list []
knows_nothing features list empty agree = record {
  agree = agree;
  earlier = subst (λ (l : TypeTables). AreBelowEarlier (slice_get (sub_types l))) (sym empty) (λ i type at. absurd cc);
  known = tt;
  no_module = subst RefersToNoModule (sym empty) tt;
  found = λ needs grows number within. absurd (omega (arith, within, ap (λ (l : TypeTables). length l.groups) empty));
  distinct = λ needs. subst (λ (l : TypeTables). AreDistinct (interned_types l)) (sym empty) (λ i j type at at'. absurd cc);
  within = omega arith;
}

-- what a list knows it knows without the module too, and so does a copy of it
pub without_module : (features : Features) (list : TypeTables) (ids : List ℕ) → KnowsModule features list ids → KnowsModule features list []
without_module features list ids knows = record {
  agree = knows.agree;
  earlier = knows.earlier;
  known = tt;
  no_module = knows.no_module;
  found = knows.found;
  distinct = knows.distinct;
  within = omega arith;
}

pub committed_knows : (features : Features) (list copy : TypeTables) (ids : List ℕ) → KnowsModule features list ids → copy ≡ committed list → TablesAgree copy → KnowsModule features copy ids
committed_knows features list copy ids knows is agree = record {
  agree = agree;
  earlier = subst (λ (l : TypeTables). AreBelowEarlier (slice_get (sub_types l))) (sym is) knows.earlier;
  known = subst (λ (l : TypeTables). AreKnown l ids) (sym is) knows.known;
  no_module = subst RefersToNoModule (sym is) knows.no_module;
  found = λ needs grows. absurd (let no = ap (λ (l : TypeTables). is_some l.known) (sym is) ∙ grows in cc);
  distinct = subst (λ (l : TypeTables). needs_type_canonicalization features ≡ true → AreDistinct (interned_types l)) (sym is) knows.distinct;
  within = knows.within;
}

-- a copy shows the same, but that it doesn't grow
pub committed_shows : (features : Features) (list copy : TypeTables) (ids : List ℕ) (groups : ℕ) → copy ≡ committed list
    → known_types features copy ids groups ≡ record (known_types features list ids groups) { grows = false }
committed_shows features list copy ids groups is = ap (λ (l : TypeTables). known_types features l ids groups) is

pub ruleset copies = (committed_knows, committed_shows, without_module)

-- ---- what callers are told

pub adds_group : (features new_features : Features) (list new_list : TypeTables) (ids new_ids : List ℕ) (groups : ℕ) (group : RecGroup Index)
    → IsWellFormedGroup features (module_types list ids) (in_section group) → module_types new_list new_ids ≡ types_after (module_types list ids) (in_section group)
    → Enters features (interned_types list) (types_of_group (module_types list ids) (in_section group)) (interned_types new_list) → suc groups ≤ most Groups → length ids + length (members group) ≤ most Types
    → AddsGroup (known_types features list ids groups) (known_types new_features new_list new_ids (groups + 1)) (in_section group)
adds_group features new_features list new_list ids new_ids groups group well added entered few_groups room = record {
  rules = well.rules;
  limits = λ l passes.
      all_get (λ type. (limit : Limit) → ¬ (PassesLimit unrolled type limit)) (types_of_group (module_types list ids) (in_section group)) well.within_limits passes.place passes.type passes.at l passes.passes;
  few_groups = few_groups;
  few_types = omega (arith, room, after_count list ids group);
  types = added;
  groups = omega arith;
  interned = entered;
}
