use Rattle.std.proofs.Common.{◌≤◌, ◌+◌, ℕ, zero, suc, ℤ, pos, negsuc, [], ◌∷◌, length, refl, inl, inr, arith, ap}
use Rattle.wasm_bodies.specs.OperatorRows.{Int32, access}
use Rattle.wasm_bodies.specs.Operators.{ArrayNewFixed, BrTable, F32Const, F64Const, I32Const, I64Const, Load, MemoryCopy, MemoryFill, MemoryInit, TableCopy, TableInit, ReturnCallIndirect, SelectTyped, V128Const}
use Rattle.wasm_spec.proofs.Encodings.{small, none, one}
use Rattle.wasm_spec.specs.Bytes.{AreBytes, IsSigned, IsS32}
use Rattle.wasm_spec.specs.TypeGrammar.{IsValType}
use Rattle.wasm_spec.specs.Types.{I32}
use Rattle.wasm_spec_examples.specs.OperatorExamples.{access_at, counted_from, scalar}
use Rattle.wasm_spec_examples.proofs.SmallOperators.{after_byte, after_prefix, of_byte, of_prefix, padded, small_offset}
use Rattle.wasm_spec_examples.proofs.operator_grammar_examples.operators.Goals as goal

pub returns-clause-row : goal.returns-clause-row
returns-clause-row c = λ features. of_byte features 0x6a [] (scalar 0x6a) refl (omega arith) refl (refl, (37, omega arith, refl))

pub returns-clause-table_of_labels : goal.returns-clause-table_of_labels
returns-clause-table_of_labels c = λ features.
    of_byte features 0x0e (0x02 ∷ 0x00 ∷ 0x01 ∷ 0x02 ∷ []) (BrTable (0 ∷ 1 ∷ []) 2) refl (omega arith) refl (
      0x02 ∷ 0x00 ∷ 0x01 ∷ [],
      0x02 ∷ [],
      refl,
      (0x02 ∷ [], 0x00 ∷ 0x01 ∷ [], refl, small 2 (omega arith), (0x00 ∷ [], 0x01 ∷ [], refl, small 0 (omega arith), (0x01 ∷ [], [], refl, small 1 (omega arith), refl))),
      small 2 (omega arith),
    )

pub returns-clause-choice : goal.returns-clause-choice
returns-clause-choice c = λ features. of_byte features 0x1c (0x01 ∷ 0x7f ∷ []) (SelectTyped (I32 ∷ [])) refl (omega arith) refl (one IsValType (0x7f ∷ []) I32 refl refl)

pub returns-clause-choice_of_none : goal.returns-clause-choice_of_none
returns-clause-choice_of_none c = λ features. of_byte features 0x1c (0x00 ∷ []) (SelectTyped []) refl (omega arith) refl (none IsValType)

pub returns-clause-prefixed : goal.returns-clause-prefixed
returns-clause-prefixed c = λ features. of_prefix features 0xfc 11 (0x01 ∷ []) (MemoryFill 1) refl (omega arith) refl (small 1 (omega arith))

pub returns-clause-padded : goal.returns-clause-padded
returns-clause-padded c = λ features.
    (0xfc ∷ 0x8b ∷ 0x00 ∷ [], 0x01 ∷ [], refl, ((0x8b ∷ 0x00 ∷ [], refl, padded 11 (omega arith)), refl), small 1 (omega arith))

pub returns-clause-segment_first : goal.returns-clause-segment_first
returns-clause-segment_first c = λ features.
    of_prefix features 0xfc 8 (0x01 ∷ 0x02 ∷ []) (MemoryInit 1 2) refl (omega arith) refl (0x01 ∷ [], 0x02 ∷ [], refl, small 1 (omega arith), small 2 (omega arith))

pub returns-clause-type_first : goal.returns-clause-type_first
returns-clause-type_first c = λ features.
    of_byte features 0x13 (0x01 ∷ 0x02 ∷ []) (ReturnCallIndirect 1 2) refl (omega arith) refl (0x01 ∷ [], 0x02 ∷ [], refl, small 1 (omega arith), small 2 (omega arith))

pub returns-clause-load : goal.returns-clause-load
returns-clause-load c = λ features.
    of_byte features 0x28 (0x02 ∷ 0x08 ∷ []) (Load (access 0x28 Int32 2) (access_at 2 0 8)) refl (omega arith) refl (
      (0x02 ∷ [], 0x08 ∷ [], refl, (omega arith, inl (small 2 (omega arith), refl)), small_offset features 8 (omega arith)),
      (0, omega arith, refl),
    )

pub returns-clause-written_memory_first : goal.returns-clause-written_memory_first
returns-clause-written_memory_first c = λ features.
    of_prefix features 0xfc 10 (0x01 ∷ 0x02 ∷ []) (MemoryCopy 1 2) refl (omega arith) refl (0x01 ∷ [], 0x02 ∷ [], refl, small 1 (omega arith), small 2 (omega arith))

pub returns-clause-written_table_first : goal.returns-clause-written_table_first
returns-clause-written_table_first c = λ features.
    of_prefix features 0xfc 14 (0x01 ∷ 0x02 ∷ []) (TableCopy 1 2) refl (omega arith) refl (0x01 ∷ [], 0x02 ∷ [], refl, small 1 (omega arith), small 2 (omega arith))

pub returns-clause-table_segment_first : goal.returns-clause-table_segment_first
returns-clause-table_segment_first c = λ features.
    of_prefix features 0xfc 12 (0x01 ∷ 0x02 ∷ []) (TableInit 1 2) refl (omega arith) refl (0x01 ∷ [], 0x02 ∷ [], refl, small 1 (omega arith), small 2 (omega arith))

pub returns-clause-count_last : goal.returns-clause-count_last
returns-clause-count_last c = λ features.
    of_prefix features 0xfb 8 (0x01 ∷ 0x02 ∷ []) (ArrayNewFixed 1 2) refl (omega arith) refl (0x01 ∷ [], 0x02 ∷ [], refl, small 1 (omega arith), small 2 (omega arith))

-- ---- numbers

pub returns-clause-negative_number : goal.returns-clause-negative_number
returns-clause-negative_number c = λ features. of_byte features 0x41 (0x7f ∷ []) (I32Const (negsuc 0)) refl (omega arith) refl (inr (omega arith, omega arith, omega arith, refl))

pub returns-clause-largest_number : goal.returns-clause-largest_number
returns-clause-largest_number c = λ features. of_byte features 0x41 (0xff ∷ 0xff ∷ 0xff ∷ 0xff ∷ 0x07 ∷ []) (I32Const (pos 2147483647)) refl (omega arith) refl (
  omega arith,
  omega arith,
  omega arith,
  pos 16777215,
  refl,
  (
    omega arith,
    omega arith,
    omega arith,
    pos 131071,
    refl,
    (omega arith, omega arith, omega arith, pos 1023, refl, (omega arith, omega arith, omega arith, pos 7, refl, inl (omega arith, omega arith, refl))),
  ),
)

-- a last byte that says more than is left
no_s32 : (z : ℤ) → IsS32 (0xff ∷ 0xff ∷ 0xff ∷ 0xff ∷ 0x0f ∷ []) z → ⊥
no_s32 z h = last h.5.5.5.3 h.5.5.5.5
  where
    last : (m : ℤ) → IsSigned 4 (0x0f ∷ []) m → ⊥
    last m (inl l) = omega (arith, l.1)
    last m (inr l) = omega (arith, l.0)

pub returns-clause-number_past : goal.returns-clause-number_past
returns-clause-number_past c = λ features value h. no_s32 value (after_byte features 0x41 0x41 (0xff ∷ 0xff ∷ 0xff ∷ 0xff ∷ 0x0f ∷ []) (I32Const value) refl h)

pub returns-clause-large_number : goal.returns-clause-large_number
returns-clause-large_number c = λ features. of_byte features 0x42 (0xff ∷ 0xff ∷ 0xff ∷ 0xff ∷ 0x0f ∷ []) (I64Const (pos 4294967295)) refl (omega arith) refl (
  omega arith,
  omega arith,
  omega arith,
  pos 33554431,
  refl,
  (
    omega arith,
    omega arith,
    omega arith,
    pos 262143,
    refl,
    (omega arith, omega arith, omega arith, pos 2047, refl, (omega arith, omega arith, omega arith, pos 15, refl, inl (omega arith, omega arith, refl))),
  ),
)

-- ---- floats and vectors

pub returns-clause-float : goal.returns-clause-float
returns-clause-float c = λ features.
    of_byte features 0x43 (0x00 ∷ 0x00 ∷ 0x80 ∷ 0x3f ∷ []) (F32Const 0x3f800000) refl (omega arith) refl ((omega arith, (omega arith, (omega arith, (omega arith, tt)))), refl, refl)

pub returns-clause-float_cut : goal.returns-clause-float_cut
returns-clause-float_cut c = λ features bits h.
    let i = after_byte features 0x43 0x43 (0x00 ∷ 0x80 ∷ 0x3f ∷ []) (F32Const bits) refl h in
    absurd (omega (arith, i.1))

pub returns-clause-double : goal.returns-clause-double
returns-clause-double c = λ features.
    of_byte features 0x44 (0x00 ∷ 0x00 ∷ 0x00 ∷ 0x00 ∷ 0x00 ∷ 0x00 ∷ 0xf0 ∷ 0x3f ∷ []) (F64Const 0x3ff0000000000000) refl (omega arith) refl (
      (omega arith, (omega arith, (omega arith, (omega arith, (omega arith, (omega arith, (omega arith, (omega arith, tt)))))))),
      refl,
      refl,
    )

pub returns-clause-double_cut : goal.returns-clause-double_cut
returns-clause-double_cut c = λ features bits h.
    let i = after_byte features 0x44 0x44 (0x00 ∷ 0x00 ∷ 0x80 ∷ 0x3f ∷ []) (F64Const bits) refl h in
    absurd (omega (arith, i.1))

-- small numbers are bytes
bytes_from : (first n : ℕ) → first + n ≤ 256 → AreBytes (counted_from first n)
bytes_from first zero few = tt
bytes_from first (suc n) few = (omega (arith, few), bytes_from (suc first) n (omega (arith, few)))

pub returns-clause-vector : goal.returns-clause-vector
returns-clause-vector c = λ features.
    of_prefix features 0xfd 12 (counted_from 0 16) (V128Const (counted_from 0 16)) refl (omega arith) refl (
      (bytes_from 0 16 (omega arith), refl),
      refl,
    )

pub returns-clause-vector_cut : goal.returns-clause-vector_cut
returns-clause-vector_cut c = λ features bytes h.
    let i = after_prefix features 0xfd 0xfd 12 12 (counted_from 0 15) (V128Const bytes) refl (omega arith) h in
    absurd (omega (arith, i.1, ap length i.0.1))
