-- The ids of a list of types: which indexes are ids, and what they stand for.
use Rattle.std.proofs.Common.{◌≡◌, ℕ, ◌<◌, ◌↔◌, true, List, length, Option, Some, None, IfSome, is_some, refl, sym, ◌∙◌, arith, slice_get}
use Rattle.std.proofs.lemmas.List.{length-map}
use Rattle.std.proofs.lemmas.Option.{slice_get-map, slice_get_within}
use Rattle.std.specs.List.{AllByRecursion}
use Rattle.std.specs.Option.{option_map}
use Rattle.wasm_spec.proofs.GroupTrees.{all_each}
use Rattle.wasm_spec.proofs.Places.{all_get, get_some}
use Rattle.wasm_spec.specs.ReferenceMaps.{IsType}
use Rattle.wasm_spec.specs.Trees.{type_at, unrolled}
use Rattle.wasm_spec.specs.TypeReferences.{sub_map, sub_refs}
use Rattle.wasm_spec.specs.Types.{SubType}
use Rattle.wasmparser_type_list.specs.TypeTables.{TablesAgree, TypeTables, sub_types, type_by_id}
use Rattle.wasmparser_type_list.proofs.IdLaws.{id_count, ids_closed, ids_unroll}
use Rattle.wasmparser_type_list.specs.IdTypes.{RefersToNoModule, type_of_index}
use Rattle.wasmparser_module_types.specs.ModuleTypes.{IsIdOf, all_groups, interned_types, module_types}
use Rattle.wasmparser_rec_groups.specs.Interning.{AreKnown}
use Rattle.wasmparser_types.specs.Index.{Index, Module, RecGroup, Id}
use Rattle.wasmparser_types.specs.SubTypes.{sub_type}

module _ (list : TypeTables) (agree : TablesAgree list) where
  pub kept_count : length (interned_types list) ≡ length list.types
  kept_count = id_count all_groups list agree

  sub_count : length (sub_types list) ≡ length list.types
  sub_count = length-map list.types sub_type

  pub is_id : (index : Index) → IsType (type_by_id list) index → IsIdOf (interned_types list) index
  is_id (Module n) known = absurd (let at = known.1 in cc)
  is_id (RecGroup place) known = absurd (let at = known.1 in cc)
  is_id (Id id) known = omega (arith, slice_get_within (sub_types list) id known.0 known.1, kept_count, sub_count)

  pub is_type : (index : Index) → IsIdOf (interned_types list) index → IsType (type_by_id list) index
  is_type (Module n) known = absurd known
  is_type (RecGroup place) known = absurd known
  is_type (Id id) known = get_some (sub_types list) id (omega (arith, known, kept_count, sub_count))

  pub are_types : (indexes : List Index) → AllByRecursion (IsIdOf (interned_types list)) indexes → AllByRecursion (IsType (type_by_id list)) indexes
  are_types = all_each (IsIdOf (interned_types list)) (IsType (type_by_id list)) is_type

  -- the ids of a module's types are ids of the list
  pub known_id : (ids : List ℕ) (index id : ℕ) → AreKnown list ids → slice_get ids index ≡ Some id → id < length (interned_types list)
  known_id ids index id known at = omega (arith, all_get (λ n. n < length list.types) ids known index id at, kept_count)

  pub known_if : (ids : List ℕ) (index : ℕ) (found : Option ℕ) → AreKnown list ids → found ≡ slice_get ids index → IfSome found (λ id. id < length (interned_types list))
  known_if ids index None known at = tt
  known_if ids index (Some id) known at = known_id ids index id known (sym at)

  module _ (no_module : RefersToNoModule list) (id : ℕ) (type : SubType Index) (at : slice_get (sub_types list) id ≡ Some type) where
    pub kept_unrolls : unrolled (type_at (interned_types list) id) ≡ Some (sub_map (type_of_index all_groups list) type)
    kept_unrolls = ids_unroll list agree no_module all_groups (Id id) type at

    pub kept_ids : AllByRecursion (IsIdOf (interned_types list)) (sub_refs type)
    kept_ids = all_each (IsType (type_by_id list)) (IsIdOf (interned_types list)) is_id (sub_refs type) (ids_closed list agree no_module (Id id) type at)

pub types_named : (list : TypeTables) (ids : List ℕ) (index : ℕ) → slice_get (module_types list ids) index ≡ option_map (type_at (interned_types list)) (slice_get ids index)
types_named list ids index = slice_get-map (type_at (interned_types list)) ids index

-- an id is found exactly where there are more items than its number
pub is_found : {A B : Type 0} (f : A → B) (items : List B) (id count : ℕ) (found : Option A) → count ≡ length items → option_map f found ≡ slice_get items id → (is_some found ≡ true) ↔ (id < count)
is_found f items id count None all is = (λ some. absurd cc, λ lt. absurd (let at = is ∙ (get_some items id (omega (arith, lt, all))).1 in cc))
is_found f items id count (Some item) all is = (λ some. omega (arith, slice_get_within items id (f item) (sym is), all), λ lt. refl)
