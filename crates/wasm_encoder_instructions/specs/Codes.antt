-- The codes of the code as those of operators, and their encodings.
use Rattle.std.specs.Prelude.{ℕ, List}
use Rattle.wasm_bodies.specs.OperatorRows.{OperatorCode, Byte, Prefixed}
use Rattle.wasm_encoder_instructions.specs.OperatorEncodings.{code_encoding}
use Rattle.wasm_encoder_instructions.specs.declared.code.Code.{Code}
use Rattle.wasm_encoder_instructions.specs.declared.code.Code.TheVariants as codes

abbrev pub operator_code : Code → OperatorCode
operator_code (codes.Byte b) = Byte b
operator_code (codes.Prefixed b n) = Prefixed b n

unfoldable pub written_code : Code → List ℕ
written_code code = code_encoding (operator_code code)
