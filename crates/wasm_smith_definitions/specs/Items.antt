-- The items of a made module as those of the specification.
use Rattle.std.specs.Prelude.{ℕ, zero, suc, List, [], ◌∷◌, map, Option, Some, None, option_map, if◌then◌else◌}
use Rattle.std.specs.String.{string_bytes}
use Rattle.wasm_core_types.specs.CoreTypes.{heap_type, val_type}
use Rattle.wasm_encoder_instructions.specs.Instructions.{vector_bytes}
use Rattle.wasm_encoder_sections.specs.CoreItems.{export_kind, global_type, ref_type, table_type}
use Rattle.wasm_spec.specs.Constants.{ConstantOperator, I32Const, I64Const, F32Const, F64Const, V128Const, RefNull, RefFunc, GlobalGet, I32Add, I32Sub, I32Mul, I64Add, I64Sub, I64Mul, ConstantExpression}
use Rattle.wasm_spec.specs.Syntax as spec
use Rattle.wasm_validity.specs.TypeRules.{is_funcref}
use Rattle.wasm_smith_definitions.specs.declared.code.Code.{Code}
use Rattle.wasm_smith_definitions.specs.declared.code.Instructions.{Instructions}
use Rattle.wasm_smith_definitions.specs.declared.code.Instructions.TheVariants.{Unreachable, Raw}
use Rattle.wasm_smith_definitions.specs.declared.constant.Constant.{Constant}
use Rattle.wasm_smith_definitions.specs.declared.constant.Constant.TheVariants as constants
use Rattle.wasm_smith_definitions.specs.declared.constant.Operation.{Operation}
use Rattle.wasm_smith_definitions.specs.declared.constant.Operation.TheVariants.{Add, Sub, Mul}
use Rattle.wasm_smith_definitions.specs.declared.custom_section.CustomSection.{CustomSection}
use Rattle.wasm_smith_definitions.specs.declared.items.Export.{Export}
use Rattle.wasm_smith_definitions.specs.declared.items.Global.{Global}
use Rattle.wasm_smith_definitions.specs.declared.items.Table.{Table}
use Rattle.wasm_smith_definitions.specs.declared.segments.DataMode.{DataMode}
use Rattle.wasm_smith_definitions.specs.declared.segments.DataMode.TheVariants as data_modes
use Rattle.wasm_smith_definitions.specs.declared.segments.DataSegment.{DataSegment}
use Rattle.wasm_smith_definitions.specs.declared.segments.ElementItems.{ElementItems}
use Rattle.wasm_smith_definitions.specs.declared.segments.ElementItems.TheVariants.{Functions, Expressions}
use Rattle.wasm_smith_definitions.specs.declared.segments.ElementMode.{ElementMode}
use Rattle.wasm_smith_definitions.specs.declared.segments.ElementMode.TheVariants as element_modes
use Rattle.wasm_smith_definitions.specs.declared.segments.ElementSegment.{ElementSegment}
use Rattle.wasm_smith_validity.specs.Made.{MadeBody, PlacedCustom}

-- ---- constants

abbrev pub on_i32 : Operation → ConstantOperator
on_i32 Add = I32Add
on_i32 Sub = I32Sub
on_i32 Mul = I32Mul

abbrev pub on_i64 : Operation → ConstantOperator
on_i64 Add = I64Add
on_i64 Sub = I64Sub
on_i64 Mul = I64Mul

abbrev pub expression : Constant → ConstantExpression
expression (constants.I32 n) = I32Const n ∷ []
expression (constants.I64 n) = I64Const n ∷ []
expression (constants.F32 bits) = F32Const bits ∷ []
expression (constants.F64 bits) = F64Const bits ∷ []
expression (constants.V128 vector) = V128Const (vector_bytes vector) ∷ []
expression (constants.Null heap) = RefNull (heap_type heap) ∷ []
expression (constants.Function function) = RefFunc function ∷ []
expression (constants.Global global) = GlobalGet global ∷ []
expression (constants.I32Operation operation a b) = I32Const a ∷ I32Const b ∷ on_i32 operation ∷ []
expression (constants.I64Operation operation a b) = I64Const a ∷ I64Const b ∷ on_i64 operation ∷ []

-- ---- tables, globals, exports

abbrev pub table : Table → spec.Table
table it = record { type = table_type it.ty; initialiser = option_map expression it.init }

abbrev pub global : Global → spec.Global
global it = record { type = global_type it.ty; initialiser = expression it.init }

abbrev pub export : Export → spec.Export
export it = record { name = string_bytes it.name; kind = export_kind it.kind; index = it.index }

-- ---- segments

abbrev pub element_items : ElementItems → spec.ElementItems
element_items (Functions functions) = spec.FunctionItems functions.items
element_items (Expressions type constants) = spec.ExpressionItems (ref_type type) (map expression constants.items)

-- Table 0 isn't written if the items are functions, or expressions of nullable references to functions.
abbrev pub written_table : ℕ → spec.ElementItems → Option ℕ
written_table zero (spec.FunctionItems functions) = None
written_table zero (spec.ExpressionItems type expressions) = if is_funcref type then None else Some 0
written_table (suc table) items = Some (suc table)

abbrev pub element_mode : ElementMode → spec.ElementItems → spec.ElementMode
element_mode (element_modes.Active table offset) items = spec.ActiveElement (written_table table items) (expression offset)
element_mode element_modes.Passive items = spec.PassiveElement
element_mode element_modes.Declared items = spec.DeclaredElement

abbrev pub element_segment : ElementSegment → spec.ElementSegment
element_segment segment = record { mode = element_mode segment.mode (element_items segment.items); items = element_items segment.items }

-- Memory 0 isn't written.
abbrev pub written_memory : ℕ → Option ℕ
written_memory zero = None
written_memory (suc memory) = Some (suc memory)

abbrev pub data_mode : DataMode → spec.DataMode
data_mode (data_modes.Active memory offset) = spec.ActiveData (written_memory memory) (expression offset)
data_mode data_modes.Passive = spec.PassiveData

abbrev pub data_segment : DataSegment → spec.DataSegment
data_segment segment = record { mode = data_mode segment.mode; contents = segment.data.items }

-- ---- bodies and custom sections

abbrev pub raw_bytes : Instructions → Option (List ℕ)
raw_bytes Unreachable = None
raw_bytes (Raw bytes) = Some bytes.items

abbrev pub made_body : Code → MadeBody
made_body code = record { locals = map val_type code.locals.items; raw = raw_bytes code.instructions }

abbrev pub placed_custom : CustomSection → PlacedCustom
placed_custom section = record { place = section.place; name = string_bytes section.name; contents = section.data.items }
