-- Reading constant expressions from the front of a list of bytes: means of proof, which the laws tie to the grammar.
use Rattle.std.specs.Prelude.{ℕ, zero, suc, [], ◌∷◌, length, Some, None, ◌==◌, if◌then◌else◌}
use Rattle.wasm_spec.specs.ConstantGrammar.{end_code}
use Rattle.wasm_spec.specs.Constants.{ConstantOperator, I32Const, I64Const, F32Const, F64Const, V128Const, RefNull, RefFunc, GlobalGet, I32Add, I32Sub, I32Mul, I64Add, I64Sub, I64Mul, StructNew, StructNewDefault, ArrayNew, ArrayNewDefault, ArrayNewFixed, AnyConvertExtern, ExternConvertAny, RefI31, ConstantExpression}
use Rattle.wasm_core_read.specs.Reading.{◌>>=◌, ReadingOf, unsigned_at, signed_at, bytes_at, float_at, seen_at, pair_at, announced_at, numbered_at, after_code, bare_code, no_code}
use Rattle.wasm_core_read.specs.TypeReading.{heap_type_at}

-- after 0xfb, the second code and what it has
abbrev pub aggregate_from : ℕ → ReadingOf ConstantOperator
aggregate_from = after_code 0 (seen_at (λ type. StructNew type) (unsigned_at 32)) (after_code 1 (seen_at (λ type. StructNewDefault type) (unsigned_at 32))
    (after_code 6 (seen_at (λ type. ArrayNew type) (unsigned_at 32)) (after_code 7 (seen_at (λ type. ArrayNewDefault type) (unsigned_at 32))
    (after_code 8 (seen_at (λ x. ArrayNewFixed x.0 x.1) (pair_at (unsigned_at 32) (unsigned_at 32)))
    (bare_code 26 AnyConvertExtern (bare_code 27 ExternConvertAny (bare_code 28 RefI31 no_code)))))))

-- after 0xfd
abbrev pub vector_from : ℕ → ReadingOf ConstantOperator
vector_from = after_code 12 (seen_at (λ bytes. V128Const bytes) (bytes_at 16)) no_code

-- an operator after its first byte
abbrev pub operator_from : ℕ → ReadingOf ConstantOperator
operator_from = after_code 0x23 (seen_at (λ global. GlobalGet global) (unsigned_at 32)) (after_code 0x41 (seen_at (λ n. I32Const n) (signed_at 32))
    (after_code 0x42 (seen_at (λ n. I64Const n) (signed_at 64)) (after_code 0x43 (seen_at (λ bits. F32Const bits) (float_at 4))
    (after_code 0x44 (seen_at (λ bits. F64Const bits) (float_at 8)) (bare_code 0x6a I32Add (bare_code 0x6b I32Sub (bare_code 0x6c I32Mul
    (bare_code 0x7c I64Add (bare_code 0x7d I64Sub (bare_code 0x7e I64Mul (after_code 0xd0 (seen_at (λ heap. RefNull heap) heap_type_at)
    (after_code 0xd2 (seen_at (λ function. RefFunc function) (unsigned_at 32)) (after_code 0xfb (numbered_at aggregate_from)
    (after_code 0xfd (numbered_at vector_from) no_code))))))))))))))

unfoldable pub operator_at : ReadingOf ConstantOperator
operator_at = announced_at operator_from

-- operators up to the end; there are at most fuel
unfoldable pub operators_at : ℕ → ReadingOf ConstantExpression
operators_at fuel [] = None
operators_at zero (b ∷ rest) = if b == end_code then Some ([], rest) else None
operators_at (suc fuel) (b ∷ rest) =
    if b == end_code then Some ([], rest)
    else (operator_at (b ∷ rest) >>= λ first. operators_at fuel first.1 >>= λ others. Some (first.0 ∷ others.0, others.1))

unfoldable pub expression_at : ReadingOf ConstantExpression
expression_at bytes = operators_at (length bytes) bytes
