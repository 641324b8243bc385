-- A known type of a group, with its ids replaced by what they stand for, is the group's type in a type section, with its type indexes replaced likewise.
use Rattle.std.proofs.Common.{◌≡◌, ℕ, ◌+◌, ◌-◌, ◌<◌, Bool, true, List, ◌++◌, length, Some, inl, inr, sym, ap, ◌∙◌, arith}
use Rattle.std.proofs.lemmas.List.{append_assoc, length-map}
use Rattle.std.proofs.lemmas.Option.{slice_get-map, slice_get_within}
use Rattle.std.specs.List.{AllByRecursion, slice_get}
use Rattle.std.specs.Option.{option_map, unwrap_or}
use Rattle.wasm_spec.proofs.Places.{get_either, get_left, get_right}
use Rattle.wasm_spec.proofs.TypeMaps.{sub_map-sub_map, sub_map_agree}
use Rattle.wasm_spec.specs.Syntax as syntax
use Rattle.wasm_spec.specs.TypeReferences.{sub_map, sub_refs}
use Rattle.wasm_spec.specs.Trees.{DefType, no_type, tree_of, type_at, types_after, types_of_group}
use Rattle.wasm_spec.specs.Types.{RecGroup, SubType}
use Rattle.wasmparser_type_relations.specs.Canonical.{IsBelow, canonical_index, id_or_place}
use Rattle.wasmparser_type_list.specs.TypeTables.{IsGroupAt, TablesAgree, TypeTables, absolute}
use Rattle.wasmparser_type_list.specs.IdTypes.{id_types, type_of_index}
use Rattle.wasmparser_rec_groups.proofs.OwnTypes.{all_weaker, places_at, section_members, stands}
use Rattle.wasmparser_rec_groups.specs.Contexts.{in_section, types_of}
use Rattle.wasmparser_rec_groups.specs.Interning.{IsModuleIndex, NamesModuleTypes, canonical_members}
use Rattle.wasmparser_types.specs.Index.{Index, Module, RecGroup as Place, Id, number_of}
use Rattle.wasmparser_types.specs.RecGroups.{members}

module _ (canonical : ℕ → Bool) (tables : TypeTables) (agree : TablesAgree tables) (ids : List ℕ) (group : RecGroup Index) (names : NamesModuleTypes group) (number : ℕ)
    (at : IsGroupAt tables number (canonical_members ids group)) (counts : canonical number ≡ true) where
  abbrev types : List DefType
  types = id_types canonical tables

  abbrev context : List DefType
  context = types_of canonical tables ids

  abbrev section : List DefType
  section = types_after context (in_section group)

  context_count : length context ≡ length ids
  context_count = length-map ids (type_at types)

  member_count : length (syntax.members (in_section group)) ≡ length (members group)
  member_count = ap length (section_members group) ∙ length-map (members group) (sub_map number_of)

  -- the type at a place of the group, by its id and in the section
  abbrev pub own_type : ℕ → DefType
  own_type place = record { tree = tree_of context (in_section group); place = place }

  pub own_by_id : (place : ℕ) → place < length (members group) → type_at types (at.start + place) ≡ own_type place
  own_by_id place less =
      let it = stands canonical tables agree ids group names number at counts in
      let own = types_of_group context (in_section group) in
      let zero_add : 0 + place ≡ place = omega arith in
      let found : slice_get own place ≡ Some (own_type place) =
      places_at (tree_of context (in_section group)) 0 (syntax.members (in_section group)) place (omega (arith, less, member_count))
      ∙ ap (λ p. Some (record { tree = tree_of context (in_section group); place = p })) zero_add in
      ap (λ o. unwrap_or o no_type)
      (ap (λ q. slice_get q (at.start + place)) (it.3 ∙ append_assoc it.0 own it.1) ∙ ap (λ n. slice_get (it.0 ++ (own ++ it.1)) (n + place)) (sym it.2) ∙ get_right it.0 (own ++ it.1) place
      ∙ get_left own it.1 place (slice_get_within own place (own_type place) found) ∙ found)

  pub own_by_index : (place : ℕ) → place < length (members group) → type_at section (length ids + place) ≡ own_type place
  own_by_index place less =
      let own = types_of_group context (in_section group) in
      let zero_add : 0 + place ≡ place = omega arith in
      ap (λ o. unwrap_or o no_type)
      (ap (λ n. slice_get (context ++ own) (n + place)) (sym context_count) ∙ get_right context own place
      ∙ places_at (tree_of context (in_section group)) 0 (syntax.members (in_section group)) place (omega (arith, less, member_count)))
      ∙ ap (λ p. record { tree = tree_of context (in_section group); place = p }) zero_add

  -- one reference
  index_same : (r : Index) → IsModuleIndex r × IsBelow (length ids + length (members group)) r
      → type_of_index canonical tables (absolute at.start (canonical_index ids r)) ≡ type_at section (number_of r)
  index_same (Place place) h = absurd h.0
  index_same (Id id) h = absurd h.0
  index_same (Module n) h = elim (get_either ids n) [
    | inl found ↦
        let id = found.0 in
        let is : canonical_index ids (Module n) ≡ Id id = ap (λ o. id_or_place o (n - length ids)) found.1 in
        let within : n < length context = let less = found.2 in omega (arith, less, context_count) in
        let listed : slice_get context n ≡ Some (type_at types id) = slice_get-map (type_at types) ids n ∙ ap (option_map (type_at types)) found.1 in
        ap (λ i. type_of_index canonical tables (absolute at.start i)) is
        ∙ sym (ap (λ o. unwrap_or o no_type) (get_left context (types_of_group context (in_section group)) n within ∙ listed))
    | inr past ↦
        let place = past.1.0 in
        let n_is : n ≡ length ids + place = past.1.1 in
        let q_is : n - length ids ≡ place = omega (arith, n_is) in
        let is : canonical_index ids (Module n) ≡ Place place = ap (λ o. id_or_place o (n - length ids)) past.0 ∙ ap Place q_is in
        let less : place < length (members group) = let below = h.1 in omega (arith, below, n_is) in
        ap (λ i. type_of_index canonical tables (absolute at.start i)) is ∙ own_by_id place less ∙ sym (ap (type_at section) n_is ∙ own_by_index place less)
  ]

  -- one type
  pub member_same : (type : SubType Index) → AllByRecursion (λ r. IsModuleIndex r × IsBelow (length ids + length (members group)) r) (sub_refs type)
      → sub_map (type_of_index canonical tables) (sub_map (absolute at.start) (sub_map (canonical_index ids) type)) ≡ sub_map (type_at section) (sub_map number_of type)
  member_same type refs =
      ap (sub_map (type_of_index canonical tables)) (sub_map-sub_map (absolute at.start) (canonical_index ids) type)
      ∙ sub_map-sub_map (type_of_index canonical tables) (λ r. absolute at.start (canonical_index ids r)) type
      ∙ sub_map_agree no_type (λ r. type_of_index canonical tables (absolute at.start (canonical_index ids r))) (λ r. type_at section (number_of r)) type
      (all_weaker (λ r. IsModuleIndex r × IsBelow (length ids + length (members group)) r)
      (λ r. type_of_index canonical tables (absolute at.start (canonical_index ids r)) ≡ type_at section (number_of r)) index_same (sub_refs type) refs)
      ∙ sym (sub_map-sub_map (type_at section) number_of type)
