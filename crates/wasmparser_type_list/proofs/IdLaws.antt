-- The laws of ids: what they stand for, and that no type has two.
use Rattle.std.proofs.Common.{◌≡◌, ℕ, ◌<◌, Bool, [], length, refl, ap, sym, ◌∙◌, subst, arith, Some}
use Rattle.std.proofs.lemmas.List.{length-map}
use Rattle.std.proofs.lemmas.Option.{slice_get-map, slice_get_within}
use Rattle.std.specs.List.{slice_get}
use Rattle.std.specs.Option.{option_map, unwrap_or}
use Rattle.wasm_spec.specs.ReferenceMaps.{ReferToTypes, IsOneToOne, IsType, KeepsTypes}
use Rattle.wasm_spec.specs.TypeReferences.{sub_map, subs_map, sub_refs}
use Rattle.wasm_spec.specs.Trees.{AreDistinct, no_type, type_at, unrolled}
use Rattle.wasm_spec.proofs.GroupTrees.{Stand, all_each}
use Rattle.wasm_spec.proofs.Places.{get_some}
use Rattle.wasm_spec.proofs.TypeMaps.{sub_map-sub_map}
use Rattle.wasmparser_types.specs.Index.{Index, Module, RecGroup, Id, number_of}
use Rattle.wasmparser_types.specs.SubTypes.{sub_type}
use Rattle.wasmparser_type_list.specs.TypeTables.{TablesAgree, TypeTables, known_group, sub_types, type_by_id}
use Rattle.wasmparser_type_list.specs.IdTypes.{AreFoundByKey, RefersToNoModule, groups_of, id_types, type_of_index}
use Rattle.wasmparser_type_list.proofs.DistinctTypes.{all_apart}
use Rattle.wasmparser_type_list.proofs.GroupTypes.{all_at, count_from, stand_from}
use Rattle.wasmparser_type_list.proofs.KeptGroups.{IsIdBelow, all_forms, all_in_range, all_members, all_refs}

pub id_count : (canonical : ℕ → Bool) (tables : TypeTables) → TablesAgree tables → length (id_types canonical tables) ≡ length tables.types
id_count canonical tables agree =
    omega (arith, count_from canonical 0 (groups_of tables) [], ap length (all_members tables agree), length-map (sub_types tables) (sub_map number_of), length-map tables.types sub_type)

module _ (tables : TypeTables) (agree : TablesAgree tables) (no_module : RefersToNoModule tables) where
  pub ids_closed : ReferToTypes (type_by_id tables)
  ids_closed (Module n) type at = absurd cc
  ids_closed (RecGroup place) type at = absurd cc
  ids_closed (Id n) type at =
      all_each (IsIdBelow (length (sub_types tables))) (IsType (type_by_id tables)) known (sub_refs type)
      (all_at (IsIdBelow (length (sub_types tables))) sub_refs (sub_types tables) (all_refs tables agree no_module) n type at) where
        known : (index : Index) → IsIdBelow (length (sub_types tables)) index → IsType (type_by_id tables) index
        known (Module n) h = absurd h
        known (RecGroup place) h = absurd h
        known (Id n) h = get_some (sub_types tables) n h

  module _ (canonical : ℕ → Bool) where
    ids_stand : Stand (subs_map number_of (sub_types tables)) (id_types canonical tables)
    ids_stand =
        let nothing : Stand [] [] = record { lengths = refl; in_range = λ i s e. absurd cc; unrolls = λ i s e. absurd cc } in
        subst (λ q. Stand q (id_types canonical tables)) (all_members tables agree) (stand_from canonical 0 (groups_of tables) [] [] nothing (all_in_range tables agree no_module))

    pub ids_unroll : KeepsTypes (type_of_index canonical tables) (type_by_id tables) unrolled
    ids_unroll (Module n) type at = absurd cc
    ids_unroll (RecGroup place) type at = absurd cc
    ids_unroll (Id n) type at =
        let number_at : slice_get (subs_map number_of (sub_types tables)) n ≡ Some (sub_map number_of type) =
        slice_get-map (sub_map number_of) (sub_types tables) n ∙ ap (option_map (sub_map number_of)) at in
        ids_stand.unrolls n (sub_map number_of type) number_at ∙ ap Some (sub_map-sub_map (type_at (id_types canonical tables)) number_of type)

    pub ids_distinct : AreFoundByKey canonical tables → AreDistinct (id_types canonical tables)
    ids_distinct are_canonical =
        all_apart (known_group tables.known) canonical (groups_of tables) (all_forms tables agree no_module canonical are_canonical)

    -- where no type has two ids, what an id stands for tells the id
    pub distinct_one_to_one : AreDistinct (id_types canonical tables) → IsOneToOne (type_of_index canonical tables) (type_by_id tables)
    distinct_one_to_one distinct (Module n) t h k e = absurd (let at = h.1 in cc)
    distinct_one_to_one distinct (RecGroup place) t h k e = absurd (let at = h.1 in cc)
    distinct_one_to_one distinct r (Module m) h k e = absurd (let at = k.1 in cc)
    distinct_one_to_one distinct r (RecGroup place) h k e = absurd (let at = k.1 in cc)
    distinct_one_to_one distinct (Id n) (Id m) h k e =
        let types = id_types canonical tables in
        let (a, at) = get_some types n (subst (λ c. n < c) (sym all_count) (slice_get_within (sub_types tables) n h.0 h.1)) in
        let (b, at') = get_some types m (subst (λ c. m < c) (sym all_count) (slice_get_within (sub_types tables) m k.0 k.1)) in
        let same : b ≡ a = sym (ap (λ q. unwrap_or q no_type) at') ∙ sym e ∙ ap (λ q. unwrap_or q no_type) at in
        ap Id (distinct n m a at (at' ∙ ap Some same)) where
          all_count : length (id_types canonical tables) ≡ length (sub_types tables)
          all_count = omega (arith, id_count canonical tables agree, length-map tables.types sub_type)

    pub ids_one_to_one : AreFoundByKey canonical tables → IsOneToOne (type_of_index canonical tables) (type_by_id tables)
    ids_one_to_one are_canonical = distinct_one_to_one (ids_distinct are_canonical)
