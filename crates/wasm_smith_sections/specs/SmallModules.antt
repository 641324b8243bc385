-- Made modules that bytes can state: numbers fit their widths, names are UTF-8, and the format has a form for each segment.
use Rattle.std.specs.Prelude.{◌≡◌, ℕ, zero, ◌<◌, ◌^◌, ⊤, Bool, List, true, length, Option, Some, None}
use Rattle.std.specs.List.{AllByRecursion}
use Rattle.wasm_encoder_expression_sections.specs.ReadItems.{IsSmallOption}
use Rattle.wasm_encoder_instructions.specs.SmallOperators.{IsSmallSigned}
use Rattle.wasm_encoder_sections.specs.SmallItems.{IsNameText, IsSmallLimits, IsSmallTable, IsSmallGlobal, IsSmallExport, IsSmallImport}
use Rattle.wasm_smith_validity.specs.Made.{Made, MadeBody, PlacedCustom}
use Rattle.wasm_spec.specs.Bytes.{AreBytes}
use Rattle.wasm_spec.specs.Constants.{ConstantOperator, I32Const, I64Const, F32Const, F64Const, V128Const, RefNull, RefFunc, GlobalGet, I32Add, I32Sub, I32Mul, I64Add, I64Sub, I64Mul, ConstantExpression}
use Rattle.wasm_spec.specs.SmallIndexes.{IsSmallIndex, IsSmallHeap, IsSmallValue, IsSmallGroup}
use Rattle.wasm_spec.specs.Syntax.{ImportEntry, Import, Table, Global, ElementMode, ActiveElement, ElementItems, FunctionItems, ExpressionItems, ElementSegment, DataMode, ActiveData, DataSegment}
use Rattle.wasm_spec.specs.Types.{funcref}

-- ---- constant expressions

-- No operator but these is made.
abbrev pub IsSmallConstant : ConstantOperator → Type 0
IsSmallConstant (I32Const n) = IsSmallSigned 32 n
IsSmallConstant (I64Const n) = IsSmallSigned 64 n
IsSmallConstant (F32Const bits) = bits < 2 ^ 32
IsSmallConstant (F64Const bits) = bits < 2 ^ 64
IsSmallConstant (V128Const bytes) = AreBytes bytes × (length bytes ≡ 16)
IsSmallConstant (RefNull heap) = IsSmallHeap heap
IsSmallConstant (RefFunc function) = IsSmallIndex function
IsSmallConstant (GlobalGet global) = IsSmallIndex global
IsSmallConstant I32Add = ⊤
IsSmallConstant I32Sub = ⊤
IsSmallConstant I32Mul = ⊤
IsSmallConstant I64Add = ⊤
IsSmallConstant I64Sub = ⊤
IsSmallConstant I64Mul = ⊤
IsSmallConstant _ = ⊥

abbrev pub IsSmallExpression : ConstantExpression → Type 0
IsSmallExpression expression = AllByRecursion IsSmallConstant expression

-- ---- tables and globals

abbrev pub IsSmallInitialiser : Option ConstantExpression → Type 0
IsSmallInitialiser None = ⊤
IsSmallInitialiser (Some expression) = IsSmallExpression expression

abbrev pub IsSmallOwnTable : Table → Type 0
IsSmallOwnTable table = IsSmallTable table.type × IsSmallInitialiser table.initialiser

abbrev pub IsSmallOwnGlobal : Global → Type 0
IsSmallOwnGlobal global = IsSmallGlobal global.type × IsSmallExpression global.initialiser

-- ---- segments

-- Where no table is written, expressions are of references to any function, or null.
abbrev pub HasElementForm : ElementMode → ElementItems → Type 0
HasElementForm (ActiveElement None offset) (ExpressionItems type expressions) = type ≡ funcref
HasElementForm _ _ = ⊤

abbrev pub IsSmallElementMode : ElementMode → Type 0
IsSmallElementMode (ActiveElement table offset) = IsSmallOption table × IsSmallExpression offset
IsSmallElementMode _ = ⊤

abbrev pub AreSmallItems : ElementItems → Type 0
AreSmallItems (FunctionItems functions) = AllByRecursion IsSmallIndex functions
AreSmallItems (ExpressionItems type expressions) = IsSmallHeap type.heap_type × AllByRecursion IsSmallExpression expressions

abbrev pub IsSmallElement : ElementSegment → Type 0
IsSmallElement segment = HasElementForm segment.mode segment.items × IsSmallElementMode segment.mode × AreSmallItems segment.items

-- Memory 0 isn't written.
abbrev pub HasMemoryForm : DataMode → Type 0
HasMemoryForm (ActiveData (Some zero) offset) = ⊥
HasMemoryForm _ = ⊤

abbrev pub IsSmallDataMode : DataMode → Type 0
IsSmallDataMode (ActiveData memory offset) = IsSmallOption memory × IsSmallExpression offset
IsSmallDataMode _ = ⊤

abbrev pub IsSmallData : DataSegment → Type 0
IsSmallData segment = HasMemoryForm segment.mode × IsSmallDataMode segment.mode × AreBytes segment.contents

-- ---- imports

-- an entry of several imports reads where compact imports are on
abbrev pub IsReadable : Bool → ImportEntry → Type 0
IsReadable compact (Import origin name type) = ⊤
IsReadable compact _ = compact ≡ true

-- ---- bodies and custom sections

abbrev pub IsSmallRaw : Option (List ℕ) → Type 0
IsSmallRaw None = ⊤
IsSmallRaw (Some raw) = AreBytes raw

abbrev pub IsSmallBody : MadeBody → Type 0
IsSmallBody body = AllByRecursion IsSmallValue body.locals × IsSmallRaw body.raw

abbrev pub IsSmallCustom : PlacedCustom → Type 0
IsSmallCustom custom = IsNameText custom.name × AreBytes custom.contents

-- ---- modules

-- A made module that bytes can state, where compact imports are on or not.
pub record IsSmallModule (compact : Bool) (m : Made) : Type 0 where
  pub groups : AllByRecursion IsSmallGroup m.groups
  pub imports : AllByRecursion (IsSmallImport compact) m.imports
  pub funcs : AllByRecursion IsSmallIndex m.funcs
  pub tables : AllByRecursion IsSmallOwnTable m.tables
  pub memories : AllByRecursion IsSmallLimits m.memories
  pub tags : AllByRecursion IsSmallIndex m.tags
  pub globals : AllByRecursion IsSmallOwnGlobal m.globals
  pub exports : AllByRecursion IsSmallExport m.exports
  pub start : IsSmallOption m.start
  pub elems : AllByRecursion IsSmallElement m.elems
  pub data_segments : AllByRecursion IsSmallData m.data_segments
  pub bodies : AllByRecursion IsSmallBody m.bodies
  pub customs : AllByRecursion IsSmallCustom m.customs
