-- Sets of features that have the same flags.
use Rattle.std.proofs.Common.{◌≡◌, ◌⊎◌, ℕ, zero, suc, List, [], ◌∷◌, length, ◌+◌, ◌*◌, ◌<◌, ◌≤◌, ◌^◌, ◌==◌, true, false, bit_and, refl, sym, subst, ap, ◌∙◌, inl, inr, arith, rules}
use Rattle.std.specs.Prelude.{⊤}
use Rattle.std.specs.Int.{bit_at}
use Rattle.std.proofs.lemmas.Bool.Decides.{eqb_tells}
use Rattle.std.proofs.lemmas.Nat.{pow_pos}
use Rattle.std.proofs.lemmas.Nat.Bits.{and_pow, bit_at-lt, same_from_bits_below}
use Rattle.wasm_spec.specs.Features.{Features, Flag, MutableGlobal, SaturatingFloatToInt, SignExtension, ReferenceTypes, MultiValue, BulkMemory, Simd, RelaxedSimd, Threads, TailCall, Floats, MultiMemory, Exceptions, Memory64, ExtendedConst, FunctionReferences, Gc, GcTypes, CustomPageSizes, CompactImports, WideArithmetic, StackSwitching, bit_of, has}

-- a digit in a place of a positive weight, and the weight
digit : (x weight : ℕ) → x < 2 → 0 < weight → (((x * weight == weight) ≡ true) × (x ≡ 1)) ⊎ (((x * weight == weight) ≡ false) × (x ≡ 0))
digit zero weight small some = elim (eqb_tells (0 * weight) weight) [ inl (test, same) ↦ absurd (omega arith) | inr (test, differs) ↦ inr (test, refl) ]
digit (suc zero) weight small some = elim (eqb_tells (1 * weight) weight) [ inl (test, same) ↦ inl (test, refl) | inr (test, differs) ↦ absurd (differs (omega arith)) ]
digit (suc (suc x)) weight small some = absurd (omega arith)

same_digit : (x y weight : ℕ) → x < 2 → y < 2 → 0 < weight → (x * weight == weight) ≡ (y * weight == weight) → x ≡ y
same_digit x y weight sx sy some same =
    elim (digit x weight sx some) [
      | inl (a, one) ↦ elim (digit y weight sy some) [ inl (b, is) ↦ one ∙ sym is | inr (b, is) ↦ absurd cc ]
      | inr (a, none) ↦ elim (digit y weight sy some) [ inl (b, is) ↦ absurd cc | inr (b, is) ↦ none ∙ sym is ]
    ]

-- each flag is the bit in its place, the first one the bit i
abbrev AreBits : ℕ → List Flag → Type 0
AreBits i [] = ⊤
AreBits i (flag ∷ flags) = (bit_of flag ≡ 2 ^ i) × AreBits (suc i) flags

-- all flags
by_bit : List Flag
by_bit =
    MutableGlobal ∷ SaturatingFloatToInt ∷ SignExtension ∷ ReferenceTypes ∷ MultiValue ∷ BulkMemory ∷ Simd ∷ RelaxedSimd ∷ Threads ∷
    TailCall ∷ Floats ∷ MultiMemory ∷ Exceptions ∷ Memory64 ∷ ExtendedConst ∷ FunctionReferences ∷ Gc ∷ GcTypes ∷ CustomPageSizes ∷
    CompactImports ∷ WideArithmetic ∷ StackSwitching ∷ []

are_bits : AreBits 0 by_bit
unfolding by_bit
are_bits = search rules

module _ (a b : Features) (same : (flag : Flag) → has a flag ≡ has b flag) where
  tested : (features : Features) (flag : Flag) (i : ℕ) → bit_of flag ≡ 2 ^ i → has features flag ≡ (bit_at features i * 2 ^ i == 2 ^ i)
  tested features flag i is = ap (λ bit. bit_and features bit == bit) is ∙ ap (λ n. n == 2 ^ i) (and_pow features i)

  same_bit : (flag : Flag) (i : ℕ) → bit_of flag ≡ 2 ^ i → bit_at a i ≡ bit_at b i
  same_bit flag i is = same_digit (bit_at a i) (bit_at b i) (2 ^ i) (bit_at-lt a i) (bit_at-lt b i) (pow_pos i) (sym (tested a flag i is) ∙ same flag ∙ tested b flag i is)

  each : (i : ℕ) (flags : List Flag) → AreBits i flags → (j : ℕ) → i ≤ j → j < i + length flags → bit_at a j ≡ bit_at b j
  each i [] are j low high = absurd (omega arith)
  each i (flag ∷ flags) are j low high =
      elim (eqb_tells i j) [
        | inl (test, here) ↦ subst (λ k. bit_at a k ≡ bit_at b k) here (same_bit flag i are.0)
        | inr (test, later) ↦ each (suc i) flags are.1 j (omega arith) (omega arith)
      ]

  pub same_features : a < 2 ^ 22 → b < 2 ^ 22 → a ≡ b
  unfolding by_bit
  same_features small_a small_b = same_from_bits_below 22 a b small_a small_b (λ i below. each 0 by_bit are_bits i (omega arith) (omega arith))
