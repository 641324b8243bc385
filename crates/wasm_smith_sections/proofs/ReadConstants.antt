-- The shortest encoding of a constant expression reads as it.
use Rattle.std.proofs.Common.{ℕ, ℤ, pos, negsuc, ◌^◌, ◌<◌, ◌++◌, refl, arith}
use Rattle.std.proofs.lemmas.Nat.{from_le_bytes-to_le_bytes_4, from_le_bytes-to_le_bytes_8}
use Rattle.std.specs.Int.{w32, w64, to_le_bytes}
use Rattle.wasm_encoder_expression_sections.specs.ReadItems.{ReadsAs}
use Rattle.wasm_encoder_instructions.specs.OperatorEncodings.{code_encoding, operator_encoding}
use Rattle.wasm_encoder_instructions.specs.SmallOperators.{IsSmallSigned}
use Rattle.wasm_smith_sections.specs.Contents.{expression_bytes, operator_bytes}
use Rattle.wasm_smith_sections.specs.SmallModules.{IsSmallConstant, IsSmallExpression}
use Rattle.wasm_smith_sections.proofs.Forms.{items_are, number_is}
use Rattle.wasm_spec.specs.Bytes.{IsSigned, IsF32, IsF64}
use Rattle.wasm_spec.specs.Constants.{ConstantOperator, I32Const, I64Const, F32Const, F64Const, V128Const, RefNull, RefFunc, GlobalGet, I32Add, I32Sub, I32Mul, I64Add, I64Sub, I64Mul, StructNew, StructNewDefault, ArrayNew, ArrayNewDefault, ArrayNewFixed, AnyConvertExtern, ExternConvertAny, RefI31, ConstantExpression}
use Rattle.wasm_spec.specs.ConstantGrammar.{IsConstantOperator}
use Rattle.wasm_spec.specs.Shortest.{unsigned_encoding, signed_encoding}
use Rattle.wasm_spec.specs.SmallIndexes.{IsSmallHeap}
use Rattle.wasm_spec.specs.TypeEncodings.{heap_encoding}
use Rattle.wasm_spec.specs.TypeGrammar.{IsHeapType}
use Rattle.wasm_spec.specs.Types.{HeapType, Abstract, Concrete}
use Rattle.wasm_spec.proofs.NumberLaws.{positive_spelled, negative_spelled}

signed_is : (bits : ℕ) (z : ℤ) → IsSmallSigned bits z → IsSigned bits (signed_encoding z) z
signed_is bits (pos n) small = positive_spelled bits n small
signed_is bits (negsuc n) small = negative_spelled bits n small

float_is : (bits : ℕ) → bits < 2 ^ 32 → IsF32 (to_le_bytes w32 bits) bits
float_is bits small = ((omega arith, (omega arith, (omega arith, (omega arith, tt)))), refl, omega (arith, from_le_bytes-to_le_bytes_4 bits small))

double_is : (bits : ℕ) → bits < 2 ^ 64 → IsF64 (to_le_bytes w64 bits) bits
double_is bits small =
    ((omega arith, (omega arith, (omega arith, (omega arith, (omega arith, (omega arith, (omega arith, (omega arith, tt)))))))), refl, omega (arith, from_le_bytes-to_le_bytes_8 bits small))

heap_is : (heap : HeapType ℕ) → IsSmallHeap heap → IsHeapType (heap_encoding heap) heap
unfolding heap_encoding
heap_is (Abstract heap) small = refl
heap_is (Concrete index) small = positive_spelled 33 index small

operator_is : (operator : ConstantOperator) → IsSmallConstant operator → IsConstantOperator (operator_bytes operator) operator
unfolding operator_encoding code_encoding
operator_is (I32Const n) small = (signed_encoding n, refl, signed_is 32 n small)
operator_is (I64Const n) small = (signed_encoding n, refl, signed_is 64 n small)
operator_is (F32Const bits) small = (to_le_bytes w32 bits, refl, float_is bits small)
operator_is (F64Const bits) small = (to_le_bytes w64 bits, refl, double_is bits small)
operator_is (V128Const bytes) small = (unsigned_encoding 12 ++ bytes, refl, (unsigned_encoding 12, bytes, refl, number_is 12 (omega arith), ((small.0, refl), small.1)))
operator_is (RefNull heap) small = (heap_encoding heap, refl, heap_is heap small)
operator_is (RefFunc function) small = (unsigned_encoding function, refl, number_is function small)
operator_is (GlobalGet global) small = (unsigned_encoding global, refl, number_is global small)
operator_is I32Add small = refl
operator_is I32Sub small = refl
operator_is I32Mul small = refl
operator_is I64Add small = refl
operator_is I64Sub small = refl
operator_is I64Mul small = refl
operator_is (StructNew type) small = absurd small
operator_is (StructNewDefault type) small = absurd small
operator_is (ArrayNew type) small = absurd small
operator_is (ArrayNewDefault type) small = absurd small
operator_is (ArrayNewFixed type count) small = absurd small
operator_is AnyConvertExtern small = absurd small
operator_is ExternConvertAny small = absurd small
operator_is RefI31 small = absurd small

pub expression_is : (expression : ConstantExpression) → IsSmallExpression expression → ReadsAs (expression_bytes expression) expression
expression_is expression small = (expression_bytes expression, refl, items_are IsConstantOperator operator_bytes IsSmallConstant operator_is expression small)
