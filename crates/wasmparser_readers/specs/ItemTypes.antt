-- Types of tables, memories, globals and tags, and what is imported, of the code as those of the specification.
use Rattle.std.specs.Prelude.{ℕ, Bool, false, Option, None, List, []}
use Rattle.wasm_spec.specs.Types as spec
use Rattle.wasm_spec.specs.TypeReferences.{table_refs, global_refs}
use Rattle.wasmparser_types.specs.Index.{Index, Module}
use Rattle.wasmparser_types.specs.ValTypes.{val_type}
use Rattle.wasmparser_readers.specs.declared.global_type.GlobalType.{GlobalType}
use Rattle.wasmparser_readers.specs.declared.memory_type.MemoryType.{MemoryType}
use Rattle.wasmparser_readers.specs.declared.table_type.TableType.{TableType}
use Rattle.wasmparser_readers.specs.declared.tag_type.TagType.{TagType}
use Rattle.wasmparser_readers.specs.declared.type_ref.TypeRef.{TypeRef}
use Rattle.wasmparser_readers.specs.declared.type_ref.TypeRef.TheVariants as refs

abbrev pub memory_type : MemoryType → spec.MemoryType
memory_type type = record { minimum = type.initial; maximum = type.maximum; shared = type.shared; is_64 = type.memory64; page_size_log2 = type.page_size_log2 }

-- limits that are neither shared nor have pages
abbrev pub plain_limits : ℕ → Option ℕ → Bool → spec.Limits
plain_limits minimum maximum is_64 = record { minimum = minimum; maximum = maximum; shared = false; is_64 = is_64; page_size_log2 = None }

-- those of a table, read as those of a memory
abbrev pub limits_of_table : MemoryType → spec.Limits
limits_of_table type = plain_limits type.initial type.maximum type.memory64

abbrev pub table_type : TableType → spec.TableType Index
table_type type = record { element_type = type.element_type; limits = plain_limits type.initial type.maximum type.table64 }

abbrev pub global_type : GlobalType → spec.GlobalType Index
global_type type = record { value_type = val_type type.content_type; mutable = type.mutable }

-- the function type that a tag has
abbrev pub tag_type : TagType → ℕ
tag_type type = type.func_type_idx

abbrev pub type_ref : TypeRef → spec.ExternalType Index
type_ref (refs.Func function) = spec.FuncExternal (Module function)
type_ref (refs.Table type) = spec.TableExternal (table_type type)
type_ref (refs.Memory type) = spec.MemoryExternal (memory_type type)
type_ref (refs.Global type) = spec.GlobalExternal (global_type type)
type_ref (refs.Tag type) = spec.TagExternal (Module (tag_type type))

-- the type indexes that are packed
abbrev pub packed_refs : {R : Type 0} → spec.ExternalType R → List R
packed_refs (spec.FuncExternal function) = []
packed_refs (spec.TableExternal type) = table_refs type
packed_refs (spec.MemoryExternal type) = []
packed_refs (spec.GlobalExternal type) = global_refs type
packed_refs (spec.TagExternal function) = []
