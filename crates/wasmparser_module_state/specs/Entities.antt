-- Types of items, with what their type indexes name in place of these.
use Rattle.std.specs.Prelude.{ℕ, Bool, true, List, [], ◌∷◌, length, nat_lt, Option, Some, None, if◌then◌else◌}
use Rattle.wasm_spec.specs.Trees.{DefType, type_at}
use Rattle.wasm_spec.specs.TypeReferences.{external_map, global_map, global_refs, ref_map, table_map, table_refs}
use Rattle.wasm_spec.specs.Types.{ExternalType, FuncExternal, TableExternal, MemoryExternal, GlobalExternal, TagExternal, GlobalType, RefType, TableType}
use Rattle.wasm_validity_laws.specs.NamedTypes.{names_heap, names_value}
use Rattle.wasmparser_readers.specs.ItemTypes.{global_type, memory_type, table_type}
use Rattle.wasmparser_module_state.specs.declared.entity_type.EntityType.{EntityType}
use Rattle.wasmparser_module_state.specs.declared.entity_type.EntityType.TheVariants as entities
use Rattle.wasmparser_module_types.specs.ModuleTypes.{KnownTypes, stands_for}
use Rattle.wasmparser_types.specs.Index.{Index, Id}

-- what a type means, where its index names one of these types
abbrev pub meant_ref : List DefType → RefType ℕ → Option (RefType DefType)
meant_ref types type = if names_heap types type.heap_type then Some (ref_map (type_at types) type) else None

abbrev pub meant_table : List DefType → TableType ℕ → Option (TableType DefType)
meant_table types type = if names_heap types type.element_type.heap_type then Some (table_map (type_at types) type) else None

abbrev pub meant_global : List DefType → GlobalType ℕ → Option (GlobalType DefType)
meant_global types type = if names_value types type.value_type then Some (global_map (type_at types) type) else None

abbrev pub names_types : List DefType → ExternalType ℕ → Bool
names_types types (FuncExternal index) = nat_lt index (length types)
names_types types (TableExternal type) = names_heap types type.element_type.heap_type
names_types types (MemoryExternal type) = true
names_types types (GlobalExternal type) = names_value types type.value_type
names_types types (TagExternal index) = nat_lt index (length types)

abbrev pub meant_item : List DefType → ExternalType ℕ → Option (ExternalType DefType)
meant_item types type = if names_types types type then Some (external_map (type_at types) type) else None

-- the indexes of types that an entity has
abbrev pub entity_refs : EntityType → List Index
entity_refs (entities.Func id) = Id id ∷ []
entity_refs (entities.Table type) = table_refs (table_type type)
entity_refs (entities.Memory type) = []
entity_refs (entities.Global type) = global_refs (global_type type)
entity_refs (entities.Tag id) = Id id ∷ []

-- what an entity's type is, whose indexes are ids
abbrev pub entity_type : KnownTypes → EntityType → ExternalType DefType
entity_type known (entities.Func id) = FuncExternal (type_at known.interned id)
entity_type known (entities.Table type) = TableExternal (table_map (stands_for known) (table_type type))
entity_type known (entities.Memory type) = MemoryExternal (memory_type type)
entity_type known (entities.Global type) = GlobalExternal (global_map (stands_for known) (global_type type))
entity_type known (entities.Tag id) = TagExternal (type_at known.interned id)
