-- The encodings of items of sections that an encoder writes: the shortest of each. References to defined types are type indexes. Core Specification
-- 3.0, Binary Format, "Types" (limits, memory, table, global, tag and external types) and "Modules" (imports, exports); shared memories, pages of
-- other sizes and compact imports are as in their proposals.
use Rattle.std.specs.Prelude.{ℕ, List, [], ◌∷◌, ◌++◌, Option, Some, None, if◌then◌else◌}
use Rattle.wasm_spec.specs.Shortest.{unsigned_encoding, list_encoding, framed_encoding}
use Rattle.wasm_spec.specs.Syntax.{ImportItem, ImportEntry, Import, CompactItems, CompactNames, Export, Table}
use Rattle.wasm_spec.specs.TypeEncodings.{ref_encoding, val_encoding}
use Rattle.wasm_spec.specs.TypeGrammar.{limits_flags, kind_code}
use Rattle.wasm_spec.specs.Types.{Limits, MemoryType, TableType, GlobalType, ExternalType, FuncExternal, TableExternal, MemoryExternal, GlobalExternal, TagExternal, kind_of}

-- a number that may be absent: what stands before it says whether it is there
unfoldable pub optional_encoding : Option ℕ → List ℕ
optional_encoding None = []
optional_encoding (Some n) = unsigned_encoding n

-- the flags, and the parts that they announce (Types, "Limits")
unfoldable pub limits_encoding : Limits → List ℕ
limits_encoding limits =
    limits_flags limits ∷ (unsigned_encoding limits.minimum ++ (optional_encoding limits.maximum ++ optional_encoding limits.page_size_log2))

-- (Types, "Memory Types")
abbrev pub memory_type_encoding : MemoryType → List ℕ
memory_type_encoding type = limits_encoding type

-- (Types, "Table Types")
unfoldable pub table_type_encoding : TableType ℕ → List ℕ
table_type_encoding type = ref_encoding type.element_type.nullable type.element_type.heap_type ++ limits_encoding type.limits

-- a table without an initialiser, which is written as its type
abbrev pub bare_table : TableType ℕ → Table
bare_table type = record { type = type; initialiser = None }

-- (Types, "Global Types")
unfoldable pub global_type_encoding : GlobalType ℕ → List ℕ
global_type_encoding type = val_encoding type.value_type ++ (if type.mutable then 0x01 else 0x00) ∷ []

-- the type index of a tag's function type (Types, "Tag Types")
unfoldable pub tag_type_encoding : ℕ → List ℕ
tag_type_encoding function = 0x00 ∷ unsigned_encoding function

-- what stands after the byte of the kind
unfoldable pub of_kind_encoding : ExternalType ℕ → List ℕ
of_kind_encoding (FuncExternal function) = unsigned_encoding function
of_kind_encoding (TableExternal type) = table_type_encoding type
of_kind_encoding (MemoryExternal type) = memory_type_encoding type
of_kind_encoding (GlobalExternal type) = global_type_encoding type
of_kind_encoding (TagExternal function) = tag_type_encoding function

-- (Types, "External Types")
unfoldable pub external_type_encoding : ExternalType ℕ → List ℕ
external_type_encoding type = kind_code (kind_of type) ∷ of_kind_encoding type

-- a name: the number of its bytes, and they themselves (Values, "Names")
abbrev pub name_encoding : List ℕ → List ℕ
name_encoding name = framed_encoding name

-- (Modules, "Export Section")
unfoldable pub export_encoding : Export → List ℕ
export_encoding export = name_encoding export.name ++ kind_code export.kind ∷ unsigned_encoding export.index

-- what is imported under a module's name
unfoldable pub import_item_encoding : ImportItem → List ℕ
import_item_encoding item = name_encoding item.name ++ external_type_encoding item.type

-- An import (Modules, "Import Section"), or any number that share the module's name, or that and the type: then the byte 00, where the own name would
-- begin, and a code that is no kind.
unfoldable pub import_encoding : ImportEntry → List ℕ
import_encoding (Import origin name type) = name_encoding origin ++ (name_encoding name ++ external_type_encoding type)
import_encoding (CompactItems origin items) = name_encoding origin ++ 0x00 ∷ 0x7f ∷ list_encoding import_item_encoding items
import_encoding (CompactNames origin type names) = name_encoding origin ++ 0x00 ∷ 0x7e ∷ (external_type_encoding type ++ list_encoding name_encoding names)
