-- Tables, globals and segments of the code as those of the specification, with their type indexes packed.
use Rattle.std.specs.List.{AllByRecursion}
use Rattle.std.specs.Prelude.{◌≡◌, ⊤, ℕ, List, [], Option, Some, None}
use Rattle.wasm_core_read.specs.ConstantReading.{expression_at}
use Rattle.wasm_core_read.specs.Input.{Input}
use Rattle.wasm_core_read.specs.Reading.{unsigned_at}
use Rattle.wasm_spec.specs.Constants.{ConstantExpression}
use Rattle.wasm_spec.specs.Syntax as syntax
use Rattle.wasm_spec.specs.TypeReferences.{ref_map, table_map, global_map, ref_refs, table_refs, global_refs}
use Rattle.wasm_spec.specs.Types as spec
use Rattle.wasmparser_types.specs.Index.{Index, number_of}
use Rattle.wasmparser_entries.specs.ConstExprs.{expression_of}
use Rattle.wasmparser_readers.specs.ItemTypes.{table_type, global_type}
use Rattle.wasmparser_readers.specs.ModuleIndexes.{IsModuleIndex}
use Rattle.wasmparser_readers.specs.Passing.{IsPart, IsLastPart}
use Rattle.wasmparser_readers.specs.Sections.{left_items}
use Rattle.wasmparser_entries.specs.Lists.{AreFunctions, AreExpressions, functions_of, expressions_of}
use Rattle.wasmparser_entries.specs.declared.table.Table.{Table}
use Rattle.wasmparser_entries.specs.declared.table.TableInit.{TableInit}
use Rattle.wasmparser_entries.specs.declared.table.TableInit.TheVariants as inits
use Rattle.wasmparser_entries.specs.declared.global.Global.{Global}
use Rattle.wasmparser_entries.specs.declared.element.Element.{Element}
use Rattle.wasmparser_entries.specs.declared.element.ElementKind.{ElementKind}
use Rattle.wasmparser_entries.specs.declared.element.ElementKind.TheVariants as kinds
use Rattle.wasmparser_entries.specs.declared.element.ElementItems.{ElementItems}
use Rattle.wasmparser_entries.specs.declared.element.ElementItems.TheVariants as items
use Rattle.wasmparser_entries.specs.declared.data.Data.{Data}
use Rattle.wasmparser_entries.specs.declared.data.DataKind.{DataKind}
use Rattle.wasmparser_entries.specs.declared.data.DataKind.TheVariants as data_kinds

-- ---- tables

abbrev pub initialiser : TableInit → Option ConstantExpression
initialiser inits.RefNull = None
initialiser (inits.Expr expression) = Some (expression_of expression.rest)

-- an initialiser is what a reader passed last
abbrev pub InitialiserIsLast : Input → Input → TableInit → Type 0
InitialiserIsLast old new inits.RefNull = ⊤
InitialiserIsLast old new (inits.Expr expression) = IsLastPart old new expression

-- the type of a table, and its initialiser
abbrev pub PackedTable : Type 0
PackedTable = spec.TableType Index × Option ConstantExpression

abbrev pub packed_table : Table → PackedTable
packed_table table = (table_type table.ty, initialiser table.init)

abbrev pub table_of : PackedTable → syntax.Table
table_of table = record { type = table_map number_of table.0; initialiser = table.1 }

abbrev pub refs_of_table : syntax.Table → List ℕ
refs_of_table table = table_refs table.type

-- ---- globals

-- the type of a global, and its initialiser
abbrev pub PackedGlobal : Type 0
PackedGlobal = spec.GlobalType Index × ConstantExpression

abbrev pub packed_global : Global → PackedGlobal
packed_global global = (global_type global.ty, expression_of global.init_expr.rest)

abbrev pub global_of : PackedGlobal → syntax.Global
global_of global = record { type = global_map number_of global.0; initialiser = global.1 }

abbrev pub refs_of_global : syntax.Global → List ℕ
refs_of_global global = global_refs global.type

-- ---- element segments

-- the items of an element segment, with the type index of their type packed
pub data PackedItems : Type 0 where
  Functions : List ℕ → PackedItems
  Expressions : spec.RefType Index → List ConstantExpression → PackedItems

pub record PackedElement : Type 0 where
  pub mode : syntax.ElementMode
  pub items : PackedItems

abbrev pub element_mode : ElementKind → syntax.ElementMode
element_mode kinds.Passive = syntax.PassiveElement
element_mode (kinds.Active table offset) = syntax.ActiveElement table (expression_of offset.rest)
element_mode kinds.Declared = syntax.DeclaredElement

abbrev pub packed_items : ElementItems → PackedItems
packed_items (items.Functions section) = Functions (functions_of section.left)
packed_items (items.Expressions type section) = Expressions type (expressions_of section.left)

-- the items of a segment are what a reader passed last, and all of them read
abbrev pub ItemsAreLast : Input → Input → ElementItems → Type 0
ItemsAreLast old new (items.Functions section) = AreFunctions old new section
ItemsAreLast old new (items.Expressions type section) = AreExpressions old new section

-- an offset is among what a reader passed
abbrev pub OffsetIsPart : Input → Input → ElementKind → Type 0
OffsetIsPart old new kinds.Passive = ⊤
OffsetIsPart old new (kinds.Active table offset) = IsPart old new offset
OffsetIsPart old new kinds.Declared = ⊤

-- the parts of a segment
abbrev pub HasItsParts : Input → Input → Element → Type 0
HasItsParts old new element = OffsetIsPart old new element.kind × ItemsAreLast old new element.items

-- the items of a segment, which are read later, do read
abbrev pub AreItemsRead : ElementItems → Type 0
AreItemsRead (items.Functions section) = left_items (λ _. unsigned_at 32) section.left ≡ Some (functions_of section.left)
AreItemsRead (items.Expressions type section) = left_items (λ _. expression_at) section.left ≡ Some (expressions_of section.left)

abbrev pub packed_element : Element → PackedElement
packed_element element = record { mode = element_mode element.kind; items = packed_items element.items }

abbrev pub items_of : PackedItems → syntax.ElementItems
items_of (Functions functions) = syntax.FunctionItems functions
items_of (Expressions type expressions) = syntax.ExpressionItems (ref_map number_of type) expressions

abbrev pub element_of : PackedElement → syntax.ElementSegment
element_of element = record { mode = element.mode; items = items_of element.items }

abbrev pub refs_of_items : syntax.ElementItems → List ℕ
refs_of_items (syntax.FunctionItems functions) = []
refs_of_items (syntax.ExpressionItems type expressions) = ref_refs type

abbrev pub refs_of_element : syntax.ElementSegment → List ℕ
refs_of_element element = refs_of_items element.items

abbrev pub packed_refs_of_items : PackedItems → List Index
packed_refs_of_items (Functions functions) = []
packed_refs_of_items (Expressions type expressions) = ref_refs type

-- each type is named by its place in the module, and the items, which are read later, do read
abbrev pub IsElementOfModule : Element → Type 0
IsElementOfModule element = AllByRecursion IsModuleIndex (packed_refs_of_items (packed_items element.items)) × AreItemsRead element.items

-- ---- data segments

abbrev pub data_mode : DataKind → syntax.DataMode
data_mode data_kinds.Passive = syntax.PassiveData
data_mode (data_kinds.Active memory offset) = syntax.ActiveData memory (expression_of offset.rest)

-- an offset is among what a reader passed
abbrev pub DataOffsetIsPart : Input → Input → DataKind → Type 0
DataOffsetIsPart old new data_kinds.Passive = ⊤
DataOffsetIsPart old new (data_kinds.Active memory offset) = IsPart old new offset

abbrev pub data_segment : Data → syntax.DataSegment
data_segment segment = record { mode = data_mode segment.kind; contents = segment.data.now }
