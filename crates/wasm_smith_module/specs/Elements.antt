-- Element segments: the types and items that are drawn for them, and the bounds on these.
use Rattle.std.specs.Prelude.{◌≡◌, ◌≤◌, ◌<◌, ℕ, true, false, List, length, min, Option, Some, None, slice_get, if◌then◌else◌}
use Rattle.std.specs.List.{AllByRecursion}
use Rattle.std.specs.Option.{unwrap_or}
use Rattle.wasm_spec.specs.Features.{Features}
use Rattle.wasm_spec.specs.Syntax.{ElementMode, ActiveElement, ElementItems, FunctionItems, ExpressionItems, ElementSegment}
use Rattle.wasm_spec.specs.Types.{RefType, TableType}
use Rattle.wasm_validity.specs.Rules.{count_of, value_of}
use Rattle.wasm_validity.specs.TypeRules.{is_funcref}
use Rattle.wasm_smith_config.specs.Config.{AreFeaturesOf}
use Rattle.wasm_smith_config.specs.declared.config.Config.{Config}
use Rattle.wasm_smith_definitions.specs.Constants.{MayWrite}
use Rattle.wasm_smith_validity.specs.Rules.{KeepsItems}
use Rattle.wasm_smith_validity.specs.Spaces.{Spaces, functions_of}
use Rattle.wasm_smith_module.specs.Traps.{IsSafeElement}

-- the elements of all tables may be null
abbrev pub AreNullable : List (TableType ℕ) → Type 0
AreNullable tables = AllByRecursion (λ type. type.element_type.nullable ≡ true) tables

-- A type of which items can be drawn: without reference types it is that of nullable references to any function.
pub record IsElementType (c : Config) (spaces : Spaces) (type : RefType ℕ) : Type 0 where
  pub written : c.reference_types_enabled ≡ true → MayWrite c spaces (value_of type)
  pub functions : (features : Features) → AreFeaturesOf c features → c.reference_types_enabled ≡ false → is_funcref type ≡ true

-- the items of a segment of this type: functions only if any function is of it
abbrev pub AreOf : RefType ℕ → ElementItems → Type 0
AreOf type (FunctionItems functions) = is_funcref type ≡ true
AreOf type (ExpressionItems own expressions) = own ≡ type

-- Under the features of a configuration the items keep their rule and are of this type.
pub record AreItems (c : Config) (spaces : Spaces) (type : RefType ℕ) (items : ElementItems) : Type 0 where
  pub keep : (features : Features) → AreFeaturesOf c features → KeepsItems features spaces items
  pub are : (features : Features) → AreFeaturesOf c features → AreOf type items

-- ---- bounds

-- At least so many items, unless they are functions and there are none.
abbrev pub AreEnough : ℕ → ℕ → ElementItems → Type 0
AreEnough least functions (FunctionItems indexes) = 0 < functions → least ≤ length indexes
AreEnough least functions (ExpressionItems type expressions) = least ≤ length expressions

-- between so many items and so many, where there are so many functions
pub record AreBounded (least most functions : ℕ) (items : ElementItems) : Type 0 where
  pub enough : AreEnough least functions items
  pub few : count_of items ≤ most

-- a number, cut at the minimum of a table where traps are disallowed
abbrev pub within_table : Config → ℕ → Option (TableType ℕ) → ℕ
within_table c n None = n
within_table c n (Some table) = if c.disallow_traps then min n table.limits.minimum else n

-- the least number of items of a segment
abbrev pub least_items : Config → List (TableType ℕ) → ElementMode → ℕ
least_items c tables (ActiveElement table offset) = within_table c c.min_elements (slice_get tables (unwrap_or table 0))
least_items c tables _ = c.min_elements

-- A segment has as many items as the configuration says. Where traps are disallowed, no more are asked for than its table has room for.
abbrev pub IsBoundedElement : Config → Spaces → ElementSegment → Type 0
IsBoundedElement c spaces segment = AreBounded (least_items c spaces.tables segment.mode) c.max_elements (length (functions_of spaces)) segment.items

-- a segment as it is drawn: within the bounds, and where traps are disallowed within its table
abbrev pub IsDrawnElement : Config → Spaces → ElementSegment → Type 0
IsDrawnElement c spaces segment = IsBoundedElement c spaces segment × IsSafeElement c spaces segment
