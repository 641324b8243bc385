-- Operators whose parts are of few bytes.
use Rattle.std.proofs.Common.{◌≡◌, ◌<◌, ◌^◌, ◌+◌, Bool, true, false, ℕ, pos, List, [], ◌∷◌, ◌++◌, if◌then◌else◌, inl, refl, sym, ap, arith, ◌∙◌, subst}
use Rattle.wasm_bodies.specs.OperatorGrammar.{code_of, IsCode, AreImmediates, IsOperator, is_prefix, IsOffset}
use Rattle.wasm_bodies.specs.OperatorRows.{Byte, Prefixed}
use Rattle.wasm_bodies.specs.Operators.{Operator}
use Rattle.wasm_spec.proofs.Encodings.{small}
use Rattle.wasm_spec.proofs.WrongEncodings.{number_is, tails}
use Rattle.wasm_spec.specs.Bytes.{IsU32, IsS32}
use Rattle.wasm_spec.specs.Features.{Features, has, Memory64}

-- a code of one byte, and immediates
pub of_byte : (features : Features) (b : ℕ) (others : List ℕ) (operator : Operator ℕ) → code_of operator ≡ Byte b → b < 256 → is_prefix b ≡ false → AreImmediates features others operator
    → IsOperator features (b ∷ others) operator
of_byte features b others operator is byte plain immediates = (b ∷ [], others, refl, rw is (refl, byte, plain), immediates)

-- a prefix and a second code of one byte, and immediates
pub of_prefix : (features : Features) (b n : ℕ) (others : List ℕ) (operator : Operator ℕ) → code_of operator ≡ Prefixed b n → n < 2 ^ 7 → is_prefix b ≡ true → AreImmediates features others operator
    → IsOperator features (b ∷ n ∷ others) operator
of_prefix features b n others operator is few prefix immediates = (b ∷ n ∷ [], others, refl, rw is ((n ∷ [], refl, small n few), prefix), immediates)

-- the immediates of an operator whose code is one byte are what stands after it
pub after_byte : (features : Features) (b c : ℕ) (others : List ℕ) (operator : Operator ℕ) → code_of operator ≡ Byte b → IsOperator features (c ∷ others) operator → AreImmediates features others operator
after_byte features b c others operator is h =
    let code : IsCode h.0 (Byte b) = subst (λ k. IsCode h.0 k) is h.3 in
    let e : c ∷ others ≡ b ∷ h.1 = h.2 ∙ ap (λ (l : List ℕ). l ++ h.1) code.0 in
    subst (λ l. AreImmediates features l operator) (sym (tails c b others h.1 e)) h.4

-- those of one whose second code is a byte are what stands after both
pub after_prefix : (features : Features) (b c n m : ℕ) (others : List ℕ) (operator : Operator ℕ) → code_of operator ≡ Prefixed b n → m < 2 ^ 7 → IsOperator features (c ∷ m ∷ others) operator
    → AreImmediates features others operator
after_prefix features b c n m others operator is few h =
    let code : IsCode h.0 (Prefixed b n) = subst (λ k. IsCode h.0 k) is h.3 in
    let e : c ∷ m ∷ others ≡ b ∷ (code.0.0 ++ h.1) = h.2 ∙ ap (λ (l : List ℕ). l ++ h.1) code.0.1 in
    let r = number_is code.0.0 h.1 others m n code.0.2 few (tails c b (m ∷ others) (code.0.0 ++ h.1) e) in
    subst (λ l. AreImmediates features l operator) r.1 h.4

-- a small number that isn't negative
pub small_s32 : (n : ℕ) → n < 2 ^ 6 → IsS32 (n ∷ []) (pos n)
small_s32 n h = inl (h, omega (arith, h), refl)

-- a small number with a byte more than it needs
pub padded : (n : ℕ) → n < 2 ^ 7 → IsU32 ((2 ^ 7 + n) ∷ 0x00 ∷ []) n
padded n h = (omega (arith, h), omega (arith, h), omega arith, 0, omega (arith, h), (omega arith, omega arith, refl))

-- offsets of one byte have as many bits as are asked
few_bits : (wide : Bool) (n : ℕ) → n < 2 ^ 7 → n < 2 ^ (if wide then 64 else 32)
few_bits true n h = omega (arith, h)
few_bits false n h = omega (arith, h)

pub small_offset : (features : Features) (n : ℕ) → n < 2 ^ 7 → IsOffset features (n ∷ []) n
small_offset features n h = (h, few_bits (has features Memory64) n h, refl)
