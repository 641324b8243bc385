use Rattle.std.proofs.Common.{◌≡◌, ◌+◌, ◌^◌, ℕ, List, [], ◌∷◌, ◌++◌, refl, inl, inr, arith, sym, subst, ◌∙◌, false, if◌then◌else◌}
use Rattle.wasm_bodies.specs.OperatorGrammar.{IsAlignment, IsIndexWith, IsOffset}
use Rattle.wasm_bodies.specs.OperatorRows.{Int32, access}
use Rattle.wasm_bodies.specs.Operators.{CallIndirect, Load}
use Rattle.wasm_spec.proofs.Encodings.{small}
use Rattle.wasm_spec.specs.Bytes.{IsUnsigned, IsU64}
use Rattle.wasm_spec.proofs.WrongEncodings.{heads, joined, number_is}
use Rattle.wasm_spec.specs.Features.{Features, has, MultiMemory}
use Rattle.wasm_spec_examples.specs.OperatorExamples.{access_at}
use Rattle.wasm_spec_examples.proofs.SmallOperators.{after_byte, of_byte, small_offset}
use Rattle.wasm_spec_examples.proofs.operator_grammar_examples.operators_under_features.Goals as goal

pub returns-clause-table : goal.returns-clause-table
returns-clause-table c = λ features on.
    of_byte features 0x11 (0x01 ∷ 0x02 ∷ []) (CallIndirect 1 2) refl (omega arith) refl (0x01 ∷ [], 0x02 ∷ [], refl, small 1 (omega arith), rw on (small 2 (omega arith)))

pub returns-clause-first_table : goal.returns-clause-first_table
returns-clause-first_table c = λ features off.
    of_byte features 0x11 (0x01 ∷ 0x00 ∷ []) (CallIndirect 1 0) refl (omega arith) refl (0x01 ∷ [], 0x00 ∷ [], refl, small 1 (omega arith), rw off (refl, refl))

pub returns-clause-no_other_table : goal.returns-clause-no_other_table
returns-clause-no_other_table c = λ features type table off h.
    let i = after_byte features 0x11 0x11 (0x01 ∷ 0x02 ∷ []) (CallIndirect type table) refl h in
    let n = number_is i.0 i.1 (0x02 ∷ []) 0x01 type i.3 (omega arith) i.2 in
    let zero_byte : IsIndexWith false i.1 table = subst (λ b. IsIndexWith b i.1 table) off i.4 in
    absurd (omega (arith, heads 0x02 0x00 [] [] (sym n.1 ∙ zero_byte.0)))

pub returns-clause-load_from : goal.returns-clause-load_from
returns-clause-load_from c = λ features on.
    of_byte features 0x28 (0x42 ∷ 0x01 ∷ 0x08 ∷ []) (Load (access 0x28 Int32 2) (access_at 2 1 8)) refl (omega arith) refl (
      (0x42 ∷ 0x01 ∷ [], 0x08 ∷ [], refl, (omega arith, inr (on, (0x42 ∷ [], 0x01 ∷ [], refl, small 66 (omega arith), small 1 (omega arith)))), small_offset features 8 (omega arith)),
      (0, omega arith, refl),
    )

pub returns-clause-large_offset : goal.returns-clause-large_offset
returns-clause-large_offset c = λ features on.
    of_byte features 0x28 (0x00 ∷ 0x80 ∷ 0x80 ∷ 0x80 ∷ 0x80 ∷ 0x10 ∷ []) (Load (access 0x28 Int32 2) (access_at 0 0 4294967296)) refl (omega arith) refl (
      (0x00 ∷ [], 0x80 ∷ 0x80 ∷ 0x80 ∷ 0x80 ∷ 0x10 ∷ [], refl, (omega arith, inl (small 0 (omega arith), refl)), rw on wide),
      (0, omega arith, refl),
    )
  where
    wide : IsU64 (0x80 ∷ 0x80 ∷ 0x80 ∷ 0x80 ∷ 0x10 ∷ []) 4294967296
    wide = (
      omega arith,
      omega arith,
      omega arith,
      33554432,
      refl,
      (omega arith, omega arith, omega arith, 262144, refl, (omega arith, omega arith, omega arith, 2048, refl, (omega arith, omega arith, omega arith, 16, refl, (omega arith, omega arith, refl)))),
    )

-- without several memories an alignment is one small number
no_bit : (features : Features) (encoding rest others : List ℕ) (place : ℕ × ℕ) → has features MultiMemory ≡ false → IsAlignment features encoding place → 0x42 ∷ others ≡ encoding ++ rest → ⊥
no_bit features encoding rest others place off (few, inl h) e = let n = number_is encoding rest others 0x42 place.0 h.0 (omega arith) e in omega (arith, few, n.0)
no_bit features encoding rest others place off (few, inr h) e = absurd cc

pub returns-clause-no_bit_of_memory : goal.returns-clause-no_bit_of_memory
returns-clause-no_bit_of_memory c = λ features row argument off h.
    let i = after_byte features row.code 0x28 (0x42 ∷ 0x01 ∷ 0x08 ∷ []) (Load row argument) refl h in
    no_bit features i.0.0 i.0.1 (0x01 ∷ 0x08 ∷ []) (argument.exponent, argument.memory) off i.0.3 i.0.2

-- what stands after an alignment of 0
after_zero : (features : Features) (encoding rest others : List ℕ) (place : ℕ × ℕ) → IsAlignment features encoding place → 0x00 ∷ others ≡ encoding ++ rest → rest ≡ others
after_zero features encoding rest others place (few, inl h) e = let n = number_is encoding rest others 0x00 place.0 h.0 (omega arith) e in n.1
after_zero features encoding rest others place (few, inr h) e =
    let p = h.1 in
    let n = number_is p.0 (p.1 ++ rest) others 0x00 (place.0 + 2 ^ 6) p.3 (omega arith) (joined encoding rest p.0 p.1 (0x00 ∷ others) e p.2) in
    absurd (omega (arith, n.0))

no_wide : (n : ℕ) → IsUnsigned 32 (0x80 ∷ 0x80 ∷ 0x80 ∷ 0x80 ∷ 0x10 ∷ []) n → ⊥
no_wide n h = omega (arith, h.5.5.5.5.1)

pub returns-clause-no_large_offset : goal.returns-clause-no_large_offset
returns-clause-no_large_offset c = λ features row argument off h.
    let i = after_byte features row.code 0x28 (0x00 ∷ 0x80 ∷ 0x80 ∷ 0x80 ∷ 0x80 ∷ 0x10 ∷ []) (Load row argument) refl h in
    let r = after_zero features i.0.0 i.0.1 (0x80 ∷ 0x80 ∷ 0x80 ∷ 0x80 ∷ 0x10 ∷ []) (argument.exponent, argument.memory) i.0.3 i.0.2 in
    let o : IsOffset features (0x80 ∷ 0x80 ∷ 0x80 ∷ 0x80 ∷ 0x10 ∷ []) argument.offset = subst (λ l. IsOffset features l argument.offset) r i.0.4 in
    no_wide argument.offset (subst (λ b. IsUnsigned (if b then 64 else 32) (0x80 ∷ 0x80 ∷ 0x80 ∷ 0x80 ∷ 0x10 ∷ []) argument.offset) off o)
