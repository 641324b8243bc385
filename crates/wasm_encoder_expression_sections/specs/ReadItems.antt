-- What items that are written read as. Operators read as an expression where they and the end are an encoding of it, whichever: an encoder keeps them as
-- bytes.
use Rattle.std.specs.Prelude.{◌≡◌, ℕ, ◌<◌, ◌^◌, ⊤, nat_eq, List, length, Option, Some, None, if◌then◌else◌}
use Rattle.std.specs.List.{AllByRecursion, AllZip}
use Rattle.wasm_encoder_bodies.specs.Expressions.{expression_encoding}
use Rattle.wasm_encoder_expression_sections.specs.ItemEncodings.{ElementMode, Active, Passive, Declared, Elements, Functions, Expressions, written_mode, DataMode, ActiveData, PassiveData}
use Rattle.wasm_spec.specs.Constants.{ConstantExpression}
use Rattle.wasm_spec.specs.ConstantGrammar.{IsConstantExpression}
use Rattle.wasm_spec.specs.SmallIndexes.{IsSmallIndex, IsSmallHeap}
use Rattle.wasm_spec.specs.Syntax as spec

abbrev pub ReadsAs : List ℕ → ConstantExpression → Type 0
ReadsAs operators expression = IsConstantExpression (expression_encoding operators) expression

abbrev pub OptionReadsAs : Option (List ℕ) → Option ConstantExpression → Type 0
OptionReadsAs None None = ⊤
OptionReadsAs (Some operators) (Some expression) = ReadsAs operators expression
OptionReadsAs _ _ = ⊥

-- ---- element segments

abbrev pub IsSmallOption : Option ℕ → Type 0
IsSmallOption None = ⊤
IsSmallOption (Some index) = IsSmallIndex index

-- a mode that writes its table where it is needed
abbrev pub ModeReadsAs : ElementMode → spec.ElementMode → Type 0
ModeReadsAs (Active table offset) (spec.ActiveElement read expression) = (read ≡ table) × IsSmallOption table × ReadsAs offset expression
ModeReadsAs Passive spec.PassiveElement = ⊤
ModeReadsAs Declared spec.DeclaredElement = ⊤
ModeReadsAs _ _ = ⊥

abbrev pub ElementsReadAs : Elements → spec.ElementItems → Type 0
ElementsReadAs (Functions functions) (spec.FunctionItems read) = (read ≡ functions) × (length functions < 2 ^ 32) × AllByRecursion IsSmallIndex functions
ElementsReadAs (Expressions type operators) (spec.ExpressionItems read expressions) =
    (read ≡ type) × IsSmallHeap type.heap_type × (length operators < 2 ^ 32) × AllZip ReadsAs operators expressions
ElementsReadAs _ _ = ⊥

abbrev pub SegmentReadsAs : ElementMode → Elements → spec.ElementSegment → Type 0
SegmentReadsAs mode elements segment = ModeReadsAs (written_mode mode elements) segment.mode × ElementsReadAs elements segment.items

-- ---- data segments

-- memory 0 isn't written
abbrev pub written_memory : ℕ → Option ℕ
written_memory memory = if nat_eq memory 0 then None else Some memory

abbrev pub DataReadsAs : DataMode → spec.DataMode → Type 0
DataReadsAs (ActiveData memory offset) (spec.ActiveData read expression) = (read ≡ written_memory memory) × IsSmallIndex memory × ReadsAs offset expression
DataReadsAs PassiveData spec.PassiveData = ⊤
DataReadsAs _ _ = ⊥
