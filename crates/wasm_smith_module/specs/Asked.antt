-- The shapes of a configuration, as a module has them. The types of a shape stand behind drawn ones: those of exports last, those of imports before them.
use Rattle.std.specs.Prelude.{◌≡◌, ◌⊎◌, ⊤, ℕ, ◌+◌, ◌-◌, ◌^◌, Bool, true, not, List, [], ◌++◌, length, Option, Some, None, IfSome, codes, is_some}
use Rattle.std.specs.List.{AllByRecursion, list_any}
use Rattle.wasm_spec.specs.Features.{Features, has, MultiMemory, ReferenceTypes}
use Rattle.wasm_spec.specs.Types.{ExternalType, TableExternal, GlobalExternal, SubType}
use Rattle.wasm_smith_config.specs.Config.{AreFeaturesOf}
use Rattle.wasm_smith_config.specs.declared.config.Config.{Config}
use Rattle.wasm_smith_definitions.specs.Constants.{has_plain}
use Rattle.wasm_smith_definitions.specs.OwnItems.{HasFewOf, KeepsOwnTableType, OwnValue, memories_in, own_items, tables_in}
use Rattle.wasm_smith_externs.specs.Bounds.{beside}
use Rattle.wasm_smith_externs.specs.ShapeExports.{moved_types}
use Rattle.wasm_smith_externs.specs.declared.bounds.ImportBounds.{ImportBounds}
use Rattle.wasm_smith_externs.specs.declared.shape_exports.KindCounts.{KindCounts}
use Rattle.wasm_smith_shapes.specs.Shapes.{NamedItem, ShapeValue, exported_items, imported_items}
use Rattle.wasm_smith_shapes.specs.ValidShapes.{IsBadPart, IsGoodShape}
use Rattle.wasm_smith_shapes.specs.declared.shape.ShapeUse.{ShapeUse}
use Rattle.wasm_smith_shapes.specs.declared.shape.ShapeUse.TheVariants.{Module, Imports, Exports}
use Rattle.wasm_smith_unstructured.specs.declared.error.Error.{Error}
use Rattle.wasm_smith_unstructured.specs.declared.error.Error.TheVariants.{IncorrectFormat, EmptyChoose, NotEnoughData, BadConfig, BadShape, TypeSize, Memory, TooLong}
use Rattle.wasm_smith_types.specs.Given.{export_shape, import_shape, type_count}
use Rattle.wasm_smith_validity.specs.Rules.{keeps_tag}
use Rattle.wasm_smith_validity.specs.Spaces.{Spaces, func_type_at, functions_of, globals_of, is_value}
use Rattle.wasm_validity.specs.TypeRules.{is_memory_type}

-- ---- exports

-- what is to be exported, its types as the shape writes them
abbrev pub exports_in : Option ShapeValue → List NamedItem
exports_in (Some shape) = shape.exports
exports_in None = []

abbrev pub exports_start : Config → ℕ → ℕ
exports_start c count = count - type_count (export_shape c)

-- the types of what is to be exported, in a module of so many types
abbrev pub asked_items : Config → ℕ → List (ExternalType ℕ)
asked_items c count = moved_types (λ index. exports_start c count + index) (exports_in (export_shape c))

-- the items that a module with these types defines for its exports
abbrev pub own_of : Config → List (SubType ℕ) → OwnValue
own_of c types = own_items (asked_items c (length types))

-- Items of the module's own keep their rules beside the items that are there, constants aside.
pub record OwnKeep (c : Config) (spaces : Spaces) (own : OwnValue) : Type 0 where
  pub functions : AllByRecursion (λ index. is_some (func_type_at spaces.types index) ≡ true) own.functions
  pub tables : (features : Features) → AreFeaturesOf c features → AllByRecursion (KeepsOwnTableType features spaces.types) own.tables
  pub few_tables : (features : Features) → AreFeaturesOf c features → HasFewOf (has features ReferenceTypes) (length spaces.tables + length own.tables)
  pub memories : (features : Features) → AreFeaturesOf c features → AllByRecursion (λ type. is_memory_type features type ≡ true) own.memories
  pub few_memories : (features : Features) → AreFeaturesOf c features → HasFewOf (has features MultiMemory) (length spaces.memories + length own.memories)
  pub globals : (features : Features) → AreFeaturesOf c features → AllByRecursion (λ type. is_value features spaces.types type.value_type ≡ true) own.globals
  pub tags : (features : Features) → AreFeaturesOf c features → AllByRecursion (λ index. keeps_tag features spaces index ≡ true) own.tags

-- ---- imports

abbrev pub imports_start : Config → ℕ → ℕ
imports_start c count = count - (type_count (import_shape c) + type_count c.exports)

-- the bounds on imports that are drawn
abbrev pub import_bounds : Config → List (SubType ℕ) → ImportBounds
import_bounds c types = beside c types (own_of c types)

-- how many items of each kind there are
abbrev pub counts_of : Spaces → KindCounts
counts_of spaces = record {
  functions = length (functions_of spaces);
  tables = length spaces.tables;
  memories = length spaces.memories;
  globals = length (globals_of spaces);
  tags = length spaces.tags;
}

-- ---- items of references that can't be null

abbrev pub is_plain_item : ExternalType ℕ → Bool
is_plain_item (TableExternal type) = type.element_type.nullable
is_plain_item (GlobalExternal type) = has_plain type.value_type
is_plain_item type = true

abbrev pub items_in : Option ShapeValue → List (ExternalType ℕ)
items_in (Some shape) = imported_items shape ++ exported_items shape
items_in None = []

-- a shape has a table or a global of references that can't be null
abbrev pub has_non_null : Config → Bool
has_non_null c = list_any (λ type. not (is_plain_item type)) (items_in c.module_shape ++ (items_in c.available_imports ++ items_in c.exports))

-- ---- which shapes are allowed

abbrev pub most_entries : ℕ
most_entries = 2 ^ 29

-- modules are made for a shape, if there is one, under the features of a configuration
abbrev pub IsGoodFor : Config → ShapeUse → Option ShapeValue → Type 0
IsGoodFor c purpose asked = IfSome asked (λ shape. (features : Features) → AreFeaturesOf c features → IsGoodShape features purpose most_entries shape)

-- Both shapes together have no second table and no second memory without the feature for these.
pub record GoTogether (c : Config) : Type 0 where
  pub tables : (features : Features) → AreFeaturesOf c features → HasFewOf (has features ReferenceTypes) (length (tables_in (items_in c.available_imports)) + length (tables_in (items_in c.exports)))
  pub memories : (features : Features) → AreFeaturesOf c features → HasFewOf (has features MultiMemory) (length (memories_in (items_in c.available_imports)) + length (memories_in (items_in c.exports)))

pub record HasGoodShapes (c : Config) : Type 0 where
  pub module_shape : IsGoodFor c Module c.module_shape
  pub available_imports : IsGoodFor c Imports c.available_imports
  pub exports : IsGoodFor c Exports c.exports
  pub together : GoTogether c

-- a part of a shape is bad under the features of a configuration
abbrev pub IsBadFor : Config → ShapeUse → Option ShapeValue → List ℕ → Type 0
IsBadFor c purpose (Some shape) part = (features : Features) → AreFeaturesOf c features → IsBadPart features purpose most_entries shape part
IsBadFor c purpose None part = ⊥

-- Each of the two shapes that may stand beside each other is good, but they don't go together.
pub record AreApart (c : Config) : Type 0 where
  pub available_imports : IsGoodFor c Imports c.available_imports
  pub exports : IsGoodFor c Exports c.exports
  pub apart : ¬ (GoTogether c)

-- which part of the shapes is refused: the first bad part of one of them, or two shapes together
abbrev pub IsBadShape : Config → List ℕ → Type 0
IsBadShape c part =
    IsBadFor c Module c.module_shape part
    ⊎ (IsBadFor c Imports c.available_imports part ⊎ (IsBadFor c Exports c.exports part ⊎ ((part ≡ codes "together") × AreApart c)))

-- why shapes are refused: a bad part, or memory ran out
abbrev pub IsShapesReason : Config → Error → Type 0
IsShapesReason c IncorrectFormat = ⊥
IsShapesReason c EmptyChoose = ⊥
IsShapesReason c NotEnoughData = ⊥
IsShapesReason c (BadConfig field) = ⊥
IsShapesReason c (BadShape part) = IsBadShape c part.now
IsShapesReason c TypeSize = ⊥
IsShapesReason c Memory = ⊤
IsShapesReason c TooLong = ⊥
