-- Imports that a configuration offers.
use Rattle.std.specs.Prelude.{◌≡◌, ℕ, ◌<◌, Bool, true, ◌&&◌, ◌||◌, List, length, nat_lt, is_some}
use Rattle.std.specs.List.{sum_by}
use Rattle.wasm_spec.specs.Types.{SubType, ExternalType, FuncExternal, TableExternal, MemoryExternal, GlobalExternal, TagExternal, ExternalKind, FuncKind, TableKind, MemoryKind, GlobalKind, TagKind}
use Rattle.wasm_smith_config.specs.declared.config.Config.{Config}
use Rattle.wasm_smith_definitions.specs.Offered.{IsOfferedMemory, IsOfferedTable, IsOfferedValue}
use Rattle.wasm_smith_definitions.specs.FunctionTypes.{func_size, function_indexes, lacks_results, tag_indexes}
use Rattle.wasm_smith_definitions.specs.Kinds.{count_of}
use Rattle.wasm_smith_validity.specs.Spaces.{Spaces, func_type_at}
use Rattle.wasm_smith_externs.specs.Bounds.{most_in}
use Rattle.wasm_smith_externs.specs.declared.bounds.ImportBounds.{ImportBounds}

-- ---- kinds

-- there is a type for an import of this kind
abbrev pub has_type : Config → List (SubType ℕ) → ExternalKind → Bool
has_type c types FuncKind = nat_lt 0 (length (function_indexes 0 types))
has_type c types TableKind = true
has_type c types MemoryKind = true
has_type c types GlobalKind = true
has_type c types TagKind = c.exceptions_enabled && nat_lt 0 (length (tag_indexes 0 types))

-- an item of this kind can be imported: there is a type for it, and room in its index space
abbrev pub can_import : Config → ImportBounds → Spaces → ExternalKind → Bool
can_import c b k kind = has_type c k.types kind && nat_lt (count_of k kind) (most_in b kind)

-- an item of some kind can be imported
abbrev pub can_import_some : Config → ImportBounds → Spaces → Bool
can_import_some c b k =
    can_import c b k FuncKind || (can_import c b k TagKind || (can_import c b k GlobalKind || (can_import c b k TableKind || can_import c b k MemoryKind)))

-- ---- types of imports

-- The type of an import is one that the configuration offers. A tag has no results.
abbrev pub IsOfferedImport : Config → List (SubType ℕ) → ExternalType ℕ → Type 0
IsOfferedImport c types (FuncExternal index) = is_some (func_type_at types index) ≡ true
IsOfferedImport c types (TableExternal type) = IsOfferedTable c (length types) type
IsOfferedImport c types (MemoryExternal type) = IsOfferedMemory c type
IsOfferedImport c types (GlobalExternal type) = IsOfferedValue c (length types) type.value_type
IsOfferedImport c types (TagExternal index) = (c.exceptions_enabled ≡ true) × (lacks_results (func_type_at types index) ≡ true)

-- The size of the type of an import: that of a function or a tag counts its parameters and results too.
abbrev pub type_size : List (SubType ℕ) → ExternalType ℕ → ℕ
type_size types (FuncExternal index) = func_size (func_type_at types index)
type_size types (TableExternal type) = 1
type_size types (MemoryExternal type) = 1
type_size types (GlobalExternal type) = 1
type_size types (TagExternal index) = func_size (func_type_at types index)

-- of all of these imports
abbrev pub type_sizes : List (SubType ℕ) → List (ExternalType ℕ) → ℕ
type_sizes types items = sum_by (type_size types) items

-- An import that the configuration offers has a type that is larger than this.
pub record HasLarger (c : Config) (types : List (SubType ℕ)) (size : ℕ) : Type 0 where
  pub item : ExternalType ℕ
  pub offered : IsOfferedImport c types item
  pub larger : size < type_size types item
