-- The rules on the items of a module, a type being its index: for each item, in the index spaces before it. Core Specification 3.0, Validation,
-- "Modules". Each rule is asked under a set of features, which the standard doesn't have.
use Rattle.std.specs.Prelude.{◌≡◌, ⊤, ℕ, ◌-◌, ◌^◌, ◌<◌, Bool, true, false, bytes_eq, not, ◌&&◌, ◌||◌, List, [], ◌∷◌, length, map, nat_eq, Option, Some, None, is_some, slice_get, if◌then◌else◌}
use Rattle.std.specs.List.{AllByRecursion, list_any}
use Rattle.std.specs.Option.{unwrap_or}
use Rattle.wasm_spec.specs.Constants.{ConstantExpression}
use Rattle.wasm_spec.specs.Features.{Features, has, ReferenceTypes, BulkMemory, MultiMemory, Memory64, Exceptions, FunctionReferences, StackSwitching}
use Rattle.wasm_spec.specs.Gates.{is_allowed}
use Rattle.wasm_spec.specs.Syntax.{Table, Global, Export, ElementMode, ActiveElement, PassiveElement, DeclaredElement, ElementItems, FunctionItems, ExpressionItems, ElementSegment, DataMode, ActiveData, PassiveData, imported_by}
use Rattle.wasm_spec.specs.Types.{SubType, ValType, I32, I64, FuncType, MemoryType, TableType, ExternalType, FuncExternal, TableExternal, MemoryExternal, GlobalExternal, TagExternal, ExternalKind, FuncKind, TableKind, MemoryKind, GlobalKind, TagKind}
use Rattle.wasm_validity.specs.Context.{element_type, names_of}
use Rattle.wasm_validity.specs.Entries.{Entry, OfCustom, OfType, OfImport, OfFunction, OfTable, OfMemory, OfTags, OfTag, OfGlobal, OfExport, OfStart, OfElement, OfDataCount, OfBody, OfData}
use Rattle.wasm_validity.specs.Rules.{may_cross, may_leave, value_of}
use Rattle.wasm_validity.specs.TypeRules.{implies, are_bounds, is_funcref, is_memory_type}
use Rattle.wasm_smith_validity.specs.ValidGroups.{IsValidGroup}
use Rattle.wasm_smith_validity.specs.Spaces.{Spaces, spaces_after, functions_of, globals_of, func_type_at, is_named, is_value, with_item}
use Rattle.wasm_smith_validity.specs.Constants.{IsBelow, IsConstant, Scope, imported_scope, scope}

-- ---- items, imported or own

-- (Types, "Table Types")
abbrev pub is_table_type : Features → List (SubType ℕ) → TableType ℕ → Bool
is_table_type features types type =
    ((is_funcref type.element_type || is_allowed features (value_of type.element_type)) && is_named types type.element_type.heap_type)
    && (implies type.limits.is_64 (has features Memory64) && are_bounds type.limits (if type.limits.is_64 then 2 ^ 64 - 1 else 2 ^ 32 - 1))

-- one table, or several with a feature
abbrev pub keeps_table : Features → Spaces → TableType ℕ → Bool
keeps_table features spaces type = is_table_type features spaces.types type && (nat_eq (length spaces.tables) 0 || has features ReferenceTypes)

abbrev pub keeps_memory : Features → Spaces → MemoryType → Bool
keeps_memory features spaces type = is_memory_type features type && (nat_eq (length spaces.memories) 0 || has features MultiMemory)

-- a function type, without results unless continuations are on (Types, "Tag Types")
abbrev pub may_be_thrown : Features → Option (FuncType ℕ) → Bool
may_be_thrown features None = false
may_be_thrown features (Some type) = nat_eq (length type.results) 0 || has features StackSwitching

abbrev pub keeps_tag : Features → Spaces → ℕ → Bool
keeps_tag features spaces index = has features Exceptions && may_be_thrown features (func_type_at spaces.types index)

-- (Modules, "Imports")
abbrev pub keeps_item : Features → Spaces → ExternalType ℕ → Bool
keeps_item features spaces (FuncExternal function) = is_some (func_type_at spaces.types function)
keeps_item features spaces (TableExternal type) = keeps_table features spaces type
keeps_item features spaces (MemoryExternal type) = keeps_memory features spaces type
keeps_item features spaces (GlobalExternal type) = is_value features spaces.types type.value_type && may_cross features type
keeps_item features spaces (TagExternal function) = keeps_tag features spaces function

-- each in the spaces before it
abbrev pub keep_items : Features → Spaces → List (ExternalType ℕ) → Bool
keep_items features spaces [] = true
keep_items features spaces (type ∷ types) = keeps_item features spaces type && keep_items features (with_item spaces type) types

-- ---- tables and globals

-- an initialiser, where there is one, gives a value of the type
abbrev pub IsInitialised : Features → Scope → ValType ℕ → Option ConstantExpression → Type 0
IsInitialised features s type None = ⊤
IsInitialised features s type (Some initialiser) = IsConstant features s type initialiser

-- A table of the module's own (Modules, "Tables"): its items are null at first, where they may be, or what an initialiser gives. Initialisers came with
-- references that can't be null, and see no globals but imported ones.
pub record KeepsOwnTable (features : Features) (spaces : Spaces) (table : Table) : Type 0 where
  pub type : keeps_table features spaces table.type ≡ true
  pub filled : (if is_some table.initialiser then has features FunctionReferences else table.type.element_type.nullable) ≡ true
  pub initialiser : IsInitialised features (imported_scope spaces) (value_of table.type.element_type) table.initialiser

-- (Modules, "Globals")
pub record KeepsGlobal (features : Features) (spaces : Spaces) (global : Global) : Type 0 where
  pub type : is_value features spaces.types global.type.value_type ≡ true
  pub initialiser : IsConstant features (scope features spaces) global.type.value_type global.initialiser

-- ---- segments

-- the type of indexes of a table, and of addresses of a memory (Types, "Address Types")
abbrev pub index_type : Bool → ValType ℕ
index_type is_64 = if is_64 then I64 else I32

-- the functions are there, or the type may be written and the expressions give values of it
abbrev pub KeepsItems : Features → Spaces → ElementItems → Type 0
KeepsItems features spaces (FunctionItems functions) = AllByRecursion (λ function. function < length (functions_of spaces)) functions
KeepsItems features spaces (ExpressionItems type expressions) =
    (is_value features spaces.types (value_of type) ≡ true) × AllByRecursion (IsConstant features (scope features spaces) (value_of type)) expressions

-- a segment of such items may be put into a table of this type from the start on, if there is one
abbrev pub FitsTable : Features → Spaces → ValType ℕ → ConstantExpression → Option (TableType ℕ) → Type 0
FitsTable features spaces type offset None = ⊥
FitsTable features spaces type offset (Some table) =
    IsBelow spaces.types type (value_of table.element_type) × IsConstant features (scope features spaces) (index_type table.limits.is_64) offset

abbrev pub KeepsElementMode : Features → Spaces → ValType ℕ → ElementMode → Type 0
KeepsElementMode features spaces type (ActiveElement table offset) = FitsTable features spaces type offset (slice_get spaces.tables (unwrap_or table 0))
KeepsElementMode features spaces type PassiveElement = has features BulkMemory ≡ true
KeepsElementMode features spaces type DeclaredElement = has features BulkMemory ≡ true

-- (Modules, "Element Segments")
pub record KeepsElement (features : Features) (spaces : Spaces) (segment : ElementSegment) : Type 0 where
  pub items : KeepsItems features spaces segment.items
  pub mode : KeepsElementMode features spaces (value_of (element_type segment.items)) segment.mode

-- a segment may be put into a memory of this type from the start on, if there is one
abbrev pub FitsMemory : Features → Spaces → ConstantExpression → Option MemoryType → Type 0
FitsMemory features spaces offset None = ⊥
FitsMemory features spaces offset (Some memory) = IsConstant features (scope features spaces) (index_type memory.is_64) offset

-- (Modules, "Data Segments")
abbrev pub KeepsData : Features → Spaces → DataMode → Type 0
KeepsData features spaces (ActiveData memory offset) = FitsMemory features spaces offset (slice_get spaces.memories (unwrap_or memory 0))
KeepsData features spaces PassiveData = has features BulkMemory ≡ true

-- ---- exports and the start function

-- the item of a kind with an index, if there is one
abbrev pub item_at : Spaces → ExternalKind → ℕ → Option (ExternalType ℕ)
item_at spaces FuncKind index = slice_get (map (λ x. FuncExternal x) (functions_of spaces)) index
item_at spaces TableKind index = slice_get (map (λ x. TableExternal x) spaces.tables) index
item_at spaces MemoryKind index = slice_get (map (λ x. MemoryExternal x) spaces.memories) index
item_at spaces GlobalKind index = slice_get (map (λ x. GlobalExternal x) (globals_of spaces)) index
item_at spaces TagKind index = slice_get (map (λ x. TagExternal x) spaces.tags) index

-- (Modules, "Exports")
abbrev pub keeps_export : Features → Spaces → Export → Bool
keeps_export features spaces export =
    may_leave features (item_at spaces export.kind export.index) && not (list_any (bytes_eq export.name) (names_of spaces.exports))

-- a function type without parameters and results
abbrev pub is_unit : Option (FuncType ℕ) → Bool
is_unit None = false
is_unit (Some type) = nat_eq (length type.params) 0 && nat_eq (length type.results) 0

-- (Modules, "Start Function")
abbrev pub starts : Spaces → Option ℕ → Bool
starts spaces None = false
starts spaces (Some index) = is_unit (func_type_at spaces.types index)

-- ---- entries

-- The rule on an entry. Beyond the standard's, an import entry has at least one import.
abbrev pub KeepsRule : Features → Spaces → Entry → Type 0
KeepsRule features spaces (OfCustom name) = ⊤
KeepsRule features spaces (OfType group) = IsValidGroup features spaces.types group
KeepsRule features spaces (OfImport entry) = (0 < length (imported_by entry)) × (keep_items features spaces (imported_by entry) ≡ true)
KeepsRule features spaces (OfFunction index) = is_some (func_type_at spaces.types index) ≡ true
KeepsRule features spaces (OfTable table) = KeepsOwnTable features spaces table
KeepsRule features spaces (OfMemory type) = keeps_memory features spaces type ≡ true
KeepsRule features spaces OfTags = has features Exceptions ≡ true
KeepsRule features spaces (OfTag index) = keeps_tag features spaces index ≡ true
KeepsRule features spaces (OfGlobal global) = KeepsGlobal features spaces global
KeepsRule features spaces (OfExport export) = keeps_export features spaces export ≡ true
KeepsRule features spaces (OfStart function) = starts spaces (slice_get (functions_of spaces) function) ≡ true
KeepsRule features spaces (OfElement segment) = KeepsElement features spaces segment
KeepsRule features spaces (OfDataCount count) = has features BulkMemory ≡ true
KeepsRule features spaces (OfBody body) = ⊤
KeepsRule features spaces (OfData segment) = KeepsData features spaces segment.mode

-- each keeps its rule after those before it
abbrev pub KeepAll : Features → Spaces → List Entry → Type 0
KeepAll features spaces [] = ⊤
KeepAll features spaces (entry ∷ entries) = KeepsRule features spaces entry × KeepAll features (spaces_after spaces entry) entries
