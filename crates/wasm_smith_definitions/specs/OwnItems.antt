-- The items that exports ask a module to define, kind by kind, and what is asked of their types.
use Rattle.std.specs.Prelude.{◌≡◌, ℕ, ◌≤◌, Bool, true, false, ◌&&◌, List, [], ◌∷◌, ◌++◌, if◌then◌else◌}
use Rattle.std.specs.List.{flat_map}
use Rattle.wasm_spec.specs.Features.{Features, has, FunctionReferences}
use Rattle.wasm_spec.specs.Types.{ExternalType, FuncExternal, TableExternal, MemoryExternal, GlobalExternal, TagExternal, GlobalType, MemoryType, SubType, TableType}
use Rattle.wasm_smith_config.specs.declared.config.Config.{Config}
use Rattle.wasm_smith_types.specs.Drawing.{bool_if}
use Rattle.wasm_smith_validity.specs.Rules.{is_table_type}

-- ---- an item, where it is of a kind

-- the type index of a function
abbrev pub function_of : ExternalType ℕ → List ℕ
function_of (FuncExternal function) = function ∷ []
function_of item = []

abbrev pub table_of : ExternalType ℕ → List (TableType ℕ)
table_of (TableExternal type) = type ∷ []
table_of item = []

abbrev pub memory_of : ExternalType ℕ → List MemoryType
memory_of (MemoryExternal type) = type ∷ []
memory_of item = []

abbrev pub global_of : ExternalType ℕ → List (GlobalType ℕ)
global_of (GlobalExternal type) = type ∷ []
global_of item = []

-- the type index of a tag
abbrev pub tag_of : ExternalType ℕ → List ℕ
tag_of (TagExternal function) = function ∷ []
tag_of item = []

-- ---- the items of a kind, in order

abbrev pub functions_in : List (ExternalType ℕ) → List ℕ
functions_in items = flat_map function_of items

abbrev pub tables_in : List (ExternalType ℕ) → List (TableType ℕ)
tables_in items = flat_map table_of items

abbrev pub memories_in : List (ExternalType ℕ) → List MemoryType
memories_in items = flat_map memory_of items

abbrev pub globals_in : List (ExternalType ℕ) → List (GlobalType ℕ)
globals_in items = flat_map global_of items

abbrev pub tags_in : List (ExternalType ℕ) → List ℕ
tags_in items = flat_map tag_of items

-- ---- all kinds

pub record OwnValue : Type 0 where
  -- the type index of each function
  pub functions : List ℕ
  pub tables : List (TableType ℕ)
  pub memories : List MemoryType
  pub globals : List (GlobalType ℕ)
  -- the type index of each tag
  pub tags : List ℕ

abbrev pub own_items : List (ExternalType ℕ) → OwnValue
own_items items = record { functions = functions_in items; tables = tables_in items; memories = memories_in items; globals = globals_in items; tags = tags_in items }

-- with one item more
abbrev pub with_one : OwnValue → ExternalType ℕ → OwnValue
with_one own (FuncExternal function) = record own { functions = own.functions ++ function ∷ [] }
with_one own (TableExternal type) = record own { tables = own.tables ++ type ∷ [] }
with_one own (MemoryExternal type) = record own { memories = own.memories ++ type ∷ [] }
with_one own (GlobalExternal type) = record own { globals = own.globals ++ type ∷ [] }
with_one own (TagExternal function) = record own { tags = own.tags ++ function ∷ [] }

-- ---- their rules

-- at most one, or several with a feature
abbrev pub HasFewOf : Bool → ℕ → Type 0
HasFewOf several count = several ≡ false → count ≤ 1

-- The rule on the type of a table of the module's own, the number of tables aside: elements that can't be null need an initialiser.
pub record KeepsOwnTableType (features : Features) (types : List (SubType ℕ)) (table : TableType ℕ) : Type 0 where
  pub type : is_table_type features types table ≡ true
  pub filled : table.element_type.nullable ≡ false → has features FunctionReferences ≡ true

-- The draw for an own table: true if it has an initialiser. One whose elements may be null has it where a bool says so, with garbage collection.
abbrev pub initialiser_at : Config → Bool → List ℕ → Bool × List ℕ
initialiser_at c nullable s = if nullable then bool_if (c.gc_enabled && c.reference_types_enabled) s else (true, s)
