-- Items whose numbers fit their widths, and whose names are names: what bytes can state.
use Rattle.std.specs.Prelude.{◌≡◌, ℕ, ◌<◌, ◌^◌, ⊤, Bool, true, false, List, Option, Some, None, is_some}
use Rattle.std.specs.List.{AllByRecursion}
use Rattle.std.specs.Str.{IsUtf8}
use Rattle.wasm_spec.specs.Bytes.{AreBytes}
use Rattle.wasm_spec.specs.SmallIndexes.{IsSmallIndex, IsSmallHeap, IsSmallValue}
use Rattle.wasm_spec.specs.Syntax.{ImportItem, ImportEntry, Import, CompactItems, CompactNames, Export}
use Rattle.wasm_spec.specs.Types.{Limits, TableType, GlobalType, ExternalType, FuncExternal, TableExternal, MemoryExternal, GlobalExternal, TagExternal}

-- a number of at most so many bits, where it is there
abbrev pub HasBits : ℕ → Option ℕ → Type 0
HasBits bits None = ⊤
HasBits bits (Some n) = n < 2 ^ bits

abbrev pub IsSmallLimits : Limits → Type 0
IsSmallLimits limits = (limits.minimum < 2 ^ 64) × HasBits 64 limits.maximum × HasBits 32 limits.page_size_log2

-- a table is never shared, and has no pages
abbrev pub IsSmallTable : TableType ℕ → Type 0
IsSmallTable type = IsSmallHeap type.element_type.heap_type × IsSmallLimits type.limits × (type.limits.shared ≡ false) × (is_some type.limits.page_size_log2 ≡ false)

abbrev pub IsSmallGlobal : GlobalType ℕ → Type 0
IsSmallGlobal type = IsSmallValue type.value_type

abbrev pub IsSmallExternal : ExternalType ℕ → Type 0
IsSmallExternal (FuncExternal function) = IsSmallIndex function
IsSmallExternal (TableExternal type) = IsSmallTable type
IsSmallExternal (MemoryExternal type) = IsSmallLimits type
IsSmallExternal (GlobalExternal type) = IsSmallGlobal type
IsSmallExternal (TagExternal function) = IsSmallIndex function

-- bytes that are the UTF-8 of some characters
abbrev pub IsNameText : List ℕ → Type 0
IsNameText name = AreBytes name × IsUtf8 name

abbrev pub IsSmallExport : Export → Type 0
IsSmallExport export = IsNameText export.name × IsSmallIndex export.index

abbrev pub IsSmallItem : ImportItem → Type 0
IsSmallItem item = IsNameText item.name × IsSmallExternal item.type

-- an entry that is written where compact imports are on, or no compact one
abbrev pub IsSmallImport : Bool → ImportEntry → Type 0
IsSmallImport compact (Import origin name type) = IsNameText origin × IsNameText name × IsSmallExternal type
IsSmallImport compact (CompactItems origin items) = (compact ≡ true) × IsNameText origin × AllByRecursion IsSmallItem items
IsSmallImport compact (CompactNames origin type names) = (compact ≡ true) × IsNameText origin × IsSmallExternal type × AllByRecursion IsNameText names
