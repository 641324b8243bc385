-- What is written of a constant vector.
use Rattle.std.proofs.Common.{◌≡◌, ℕ, List, ◌∷◌, ◌++◌, ap, arith}
use Rattle.wasm_bodies.specs.Operators.{V128Const}
use Rattle.wasm_encoder_instructions.specs.OperatorEncodings.{code_encoding, operator_encoding}
use Rattle.wasm_spec.proofs.UnsignedEncodings.{unsigned_last}

pub vector_written : (bytes : List ℕ) → operator_encoding (V128Const bytes) ≡ 0xfd ∷ 0x0c ∷ bytes
unfolding operator_encoding code_encoding
vector_written bytes = ap (λ (code : List ℕ). 0xfd ∷ (code ++ bytes)) (unsigned_last 12 (omega arith))
