-- Items that worked examples of bytes share.
use Rattle.std.specs.Prelude.{[], ◌∷◌, Some, None, pos}
use Rattle.wasm_spec.specs.Constants.{I32Const, RefFunc}
use Rattle.wasm_spec.specs.Syntax.{ActiveData, ActiveElement, DataSegment, ElementSegment, ExpressionItems, Global}
use Rattle.wasm_spec.specs.Types.{I32, funcref}
use Rattle.wasm_validity_examples.specs.Examples.{variable}

-- a global that holds 0 at first, and may be written to
abbrev pub variable_of_0 : Global
variable_of_0 = record { type = variable I32; initialiser = I32Const (pos 0) ∷ [] }

-- a segment of one function, given by an expression, at the start of table 3
abbrev pub functions_in_table_3 : ElementSegment
functions_in_table_3 = record { mode = ActiveElement (Some 3) (I32Const (pos 0) ∷ []); items = ExpressionItems funcref ((RefFunc 5 ∷ []) ∷ []) }

-- a segment of two bytes at the start of the first memory
abbrev pub two_bytes : DataSegment
two_bytes = record { mode = ActiveData None (I32Const (pos 0) ∷ []); contents = 0x68 ∷ 0x69 ∷ [] }
