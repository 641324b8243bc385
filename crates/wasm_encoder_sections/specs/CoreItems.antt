-- The items of the code as those of the specification, and their encodings.
use Rattle.std.specs.Prelude.{ℕ, List, false, Option, Some, None}
use Rattle.std.specs.String.{string_bytes}
use Rattle.wasm_spec.specs.Syntax as syntax
use Rattle.wasm_spec.specs.Types as spec
use Rattle.wasm_core_types.specs.CoreTypes.{heap_type, val_type}
use Rattle.wasm_core_types.specs.declared.types.RefType.{RefType}
use Rattle.wasm_encoder_sections.specs.declared.limits.Limits.{Limits}
use Rattle.wasm_encoder_sections.specs.declared.entity_type.MemoryType.{MemoryType}
use Rattle.wasm_encoder_sections.specs.declared.entity_type.TableType.{TableType}
use Rattle.wasm_encoder_sections.specs.declared.entity_type.GlobalType.{GlobalType}
use Rattle.wasm_encoder_sections.specs.declared.entity_type.TagType.{TagType}
use Rattle.wasm_encoder_sections.specs.declared.entity_type.EntityType.{EntityType}
use Rattle.wasm_encoder_sections.specs.declared.entity_type.EntityType.TheVariants as entities
use Rattle.wasm_encoder_sections.specs.declared.entity_type.ExportKind.{ExportKind}
use Rattle.wasm_encoder_sections.specs.declared.entity_type.ExportKind.TheVariants as kinds
use Rattle.wasm_encoder_sections.specs.declared.names.Name.{Name}
use Rattle.wasm_encoder_sections.specs.declared.export_section.Export.{Export}
use Rattle.wasm_encoder_sections.specs.ItemEncodings.{name_encoding, export_encoding, limits_encoding, memory_type_encoding, table_type_encoding, global_type_encoding, tag_type_encoding, external_type_encoding}

abbrev pub limits : Limits → spec.Limits
limits it = record { minimum = it.minimum; maximum = it.maximum; shared = it.shared; is_64 = it.is_64; page_size_log2 = it.page_size_log2 }

abbrev pub memory_type : MemoryType → spec.MemoryType
memory_type type = record { minimum = type.minimum; maximum = type.maximum; shared = type.shared; is_64 = type.memory64; page_size_log2 = type.page_size_log2 }

-- which power of two a page's size is: where it isn't written, a page has 65,536 bytes
abbrev pub page_power : Option ℕ → ℕ
page_power None = 16
page_power (Some power) = power

abbrev pub ref_type : RefType → spec.RefType ℕ
ref_type type = record { nullable = type.nullable; heap_type = heap_type type.heap_type }

abbrev pub table_type : TableType → spec.TableType ℕ
table_type type = record {
  element_type = ref_type type.element_type;
  limits = record { minimum = type.minimum; maximum = type.maximum; shared = false; is_64 = type.table64; page_size_log2 = None };
}

abbrev pub global_type : GlobalType → spec.GlobalType ℕ
global_type type = record { value_type = val_type type.val_type; mutable = type.mutable }

-- a tag's type is the index of its function type
abbrev pub tag_type : TagType → ℕ
tag_type type = type.func_type_idx

abbrev pub entity_type : EntityType → spec.ExternalType ℕ
entity_type (entities.Function function) = spec.FuncExternal function
entity_type (entities.Table type) = spec.TableExternal (table_type type)
entity_type (entities.Memory type) = spec.MemoryExternal (memory_type type)
entity_type (entities.Global type) = spec.GlobalExternal (global_type type)
entity_type (entities.Tag type) = spec.TagExternal (tag_type type)

abbrev pub export_kind : ExportKind → spec.ExternalKind
export_kind kinds.Func = spec.FuncKind
export_kind kinds.Table = spec.TableKind
export_kind kinds.Memory = spec.MemoryKind
export_kind kinds.Global = spec.GlobalKind
export_kind kinds.Tag = spec.TagKind

abbrev pub name_of : Name → List ℕ
name_of name = string_bytes name.text

abbrev pub export_of : Export → syntax.Export
export_of it = record { name = name_of it.name; kind = export_kind it.kind; index = it.index }

unfoldable pub limits_bytes : Limits → List ℕ
limits_bytes it = limits_encoding (limits it)

unfoldable pub memory_type_bytes : MemoryType → List ℕ
memory_type_bytes type = memory_type_encoding (memory_type type)

unfoldable pub table_type_bytes : TableType → List ℕ
table_type_bytes type = table_type_encoding (table_type type)

unfoldable pub global_type_bytes : GlobalType → List ℕ
global_type_bytes type = global_type_encoding (global_type type)

unfoldable pub tag_type_bytes : TagType → List ℕ
tag_type_bytes type = tag_type_encoding (tag_type type)

unfoldable pub entity_type_bytes : EntityType → List ℕ
entity_type_bytes type = external_type_encoding (entity_type type)

unfoldable pub name_bytes : Name → List ℕ
name_bytes name = name_encoding (name_of name)

unfoldable pub export_bytes : Export → List ℕ
export_bytes it = export_encoding (export_of it)
