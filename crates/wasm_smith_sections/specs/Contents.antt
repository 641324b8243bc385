-- The contents of the sections of a made module: of each item the shortest encoding. Core Specification 3.0, Binary Format, "Modules".
use Rattle.std.specs.Prelude.{ℕ, List, [], ◌∷◌, ◌++◌, length, map, Option, Some, None, option_map}
use Rattle.std.specs.List.{flat_map}
use Rattle.wasm_bodies.specs.Operators as bodies
use Rattle.wasm_encoder_expression_sections.specs.ItemEncodings as encoder
use Rattle.wasm_encoder_instructions.specs.OperatorEncodings.{operator_encoding}
use Rattle.wasm_encoder_sections.specs.ItemEncodings.{export_encoding, import_encoding, memory_type_encoding, name_encoding, tag_type_encoding}
use Rattle.wasm_spec.specs.Constants.{ConstantOperator, I32Const, I64Const, F32Const, F64Const, V128Const, RefNull, RefFunc, GlobalGet, I32Add, I32Sub, I32Mul, I64Add, I64Sub, I64Mul, ConstantExpression}
use Rattle.wasm_spec.specs.Grammar.{section_id}
use Rattle.wasm_spec.specs.Shortest.{unsigned_encoding, list_encoding, framed_encoding, section_encoding}
use Rattle.wasm_spec.specs.Syntax.{Table, Global, ElementMode, ActiveElement, PassiveElement, DeclaredElement, ElementItems, FunctionItems, ExpressionItems, ElementSegment, DataMode, ActiveData, PassiveData, DataSegment, Section, Custom, TypeSection, ImportSection, FunctionSection, TableSection, MemorySection, TagSection, GlobalSection, ExportSection, StartSection, ElementSection, DataCountSection, CodeSection, DataSection}
use Rattle.wasm_spec.specs.TypeEncodings.{rec_groups_encoding}

-- ---- constant expressions

-- No operator but these is made.
abbrev pub operator_bytes : ConstantOperator → List ℕ
operator_bytes (I32Const n) = operator_encoding (bodies.I32Const n)
operator_bytes (I64Const n) = operator_encoding (bodies.I64Const n)
operator_bytes (F32Const bits) = operator_encoding (bodies.F32Const bits)
operator_bytes (F64Const bits) = operator_encoding (bodies.F64Const bits)
operator_bytes (V128Const bytes) = operator_encoding (bodies.V128Const bytes)
operator_bytes (RefNull heap) = operator_encoding (bodies.RefNull heap)
operator_bytes (RefFunc function) = operator_encoding (bodies.RefFunc function)
operator_bytes (GlobalGet global) = operator_encoding (bodies.GlobalGet global)
operator_bytes I32Add = 0x6a ∷ []
operator_bytes I32Sub = 0x6b ∷ []
operator_bytes I32Mul = 0x6c ∷ []
operator_bytes I64Add = 0x7c ∷ []
operator_bytes I64Sub = 0x7d ∷ []
operator_bytes I64Mul = 0x7e ∷ []
operator_bytes _ = []

-- the operators, without the end
abbrev pub expression_bytes : ConstantExpression → List ℕ
expression_bytes operators = flat_map operator_bytes operators

-- ---- items

abbrev pub table_bytes : Table → List ℕ
table_bytes table = encoder.table_encoding table.type (option_map expression_bytes table.initialiser)

abbrev pub global_bytes : Global → List ℕ
global_bytes global = encoder.global_encoding global.type (expression_bytes global.initialiser)

abbrev pub mode_bytes : ElementMode → encoder.ElementMode
mode_bytes (ActiveElement table offset) = encoder.Active table (expression_bytes offset)
mode_bytes PassiveElement = encoder.Passive
mode_bytes DeclaredElement = encoder.Declared

abbrev pub items_bytes : ElementItems → encoder.Elements
items_bytes (FunctionItems functions) = encoder.Functions functions
items_bytes (ExpressionItems type expressions) = encoder.Expressions type (map expression_bytes expressions)

abbrev pub element_bytes : ElementSegment → List ℕ
element_bytes segment = encoder.form_encoding (mode_bytes segment.mode) (items_bytes segment.items)

-- A memory that isn't written is memory 0.
abbrev pub memory_index : Option ℕ → ℕ
memory_index None = 0
memory_index (Some memory) = memory

abbrev pub data_mode_bytes : DataMode → encoder.DataMode
data_mode_bytes (ActiveData memory offset) = encoder.ActiveData (memory_index memory) (expression_bytes offset)
data_mode_bytes PassiveData = encoder.PassiveData

abbrev pub data_bytes : DataSegment → List ℕ
data_bytes segment = encoder.data_encoding (data_mode_bytes segment.mode) segment.contents

-- ---- sections

-- what stands in the frame of a section
abbrev pub content : Section → List ℕ
content (Custom name contents) = name_encoding name ++ contents
content (TypeSection groups) = rec_groups_encoding groups
content (ImportSection imports) = list_encoding import_encoding imports
content (FunctionSection indexes) = list_encoding unsigned_encoding indexes
content (TableSection tables) = list_encoding table_bytes tables
content (MemorySection types) = list_encoding memory_type_encoding types
content (TagSection indexes) = list_encoding tag_type_encoding indexes
content (GlobalSection globals) = list_encoding global_bytes globals
content (ExportSection exports) = list_encoding export_encoding exports
content (StartSection function) = unsigned_encoding function
content (ElementSection segments) = list_encoding element_bytes segments
content (DataCountSection count) = unsigned_encoding count
content (CodeSection bodies) = list_encoding framed_encoding bodies
content (DataSection segments) = list_encoding data_bytes segments

-- the number of items that a section states
abbrev pub stated_count : Section → ℕ
stated_count (Custom name contents) = 0
stated_count (TypeSection groups) = length groups
stated_count (ImportSection imports) = length imports
stated_count (FunctionSection indexes) = length indexes
stated_count (TableSection tables) = length tables
stated_count (MemorySection types) = length types
stated_count (TagSection indexes) = length indexes
stated_count (GlobalSection globals) = length globals
stated_count (ExportSection exports) = length exports
stated_count (StartSection function) = 0
stated_count (ElementSection segments) = length segments
stated_count (DataCountSection count) = count
stated_count (CodeSection bodies) = length bodies
stated_count (DataSection segments) = length segments

abbrev pub section_bytes : Section → List ℕ
section_bytes section = section_encoding (section_id section) (content section)
