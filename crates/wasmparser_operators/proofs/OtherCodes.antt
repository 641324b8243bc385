-- Codes that no operator has.
use Rattle.std.proofs.Common.{◌≡◌, ◌≤◌, ◌<◌, ◌+◌, ◌⊎◌, ℕ, zero, suc, Bool, true, false, not, ◌&&◌, List, [], ◌∷◌, Some, None, refl, ap, subst, arith, inl, inr}
use Rattle.std.proofs.lemmas.Bool.{cases_lt}
use Rattle.std.specs.List.{list_all}
use Rattle.wasm_bodies.specs.OperatorRows.{Byte}
use Rattle.wasm_core_read.specs.Reading.{byte_at}
use Rattle.wasm_core_read.proofs.Forms.{some_is}
use Rattle.wasmparser_operators.specs.OperatorAnswers.{is_other_code}
use Rattle.wasmparser_operators.specs.OperatorReading.{code_from, code_at}

pub both : (a b : Bool) → (a && b) ≡ true → (a ≡ true) × (b ≡ true)
both true b e = (refl, e)
both false b e = absurd cc

-- ---- bytes

-- so many numbers from this one on
abbrev pub counted_from : ℕ → ℕ → List ℕ
counted_from first zero = []
counted_from first (suc n) = first ∷ counted_from (suc first) n

-- a test of numbers that follow one another holds of each
pub counted : (test : ℕ → Bool) (low n b : ℕ) → list_all test (counted_from low n) ≡ true → low ≤ b → b < low + n → test b ≡ true
counted test low zero b e l h = absurd (omega (arith, l, h))
counted test low (suc n) b e l h =
    let p = both (test low) (list_all test (counted_from (suc low) n)) e in
    elim (at_or_above low b l) [
      | inl same ↦ subst (λ (k : ℕ). test k ≡ true) same p.0
      | inr lt ↦ counted test (suc low) n b p.1 lt (omega (arith, h))
    ]
  where
    at_or_above : (a c : ℕ) → a ≤ c → (a ≡ c) ⊎ (suc a ≤ c)
    at_or_above a c le = elim (cases_lt a c) [ inl lt ↦ inr (omega (arith, lt)) | inr ge ↦ inl (omega (arith, le, ge)) ]

others : (low n b : ℕ) → list_all (λ k. is_other_code (Byte k)) (counted_from low n) ≡ true → low ≤ b → b < low + n → is_other_code (Byte b) ≡ true
others low n b e l h = counted (λ k. is_other_code (Byte k)) low n b e l h

pub is_off : (b : Bool) → not b ≡ true → b ≡ false
is_off true e = absurd cc
is_off false e = refl

owned : (low n b : ℕ) → list_all (λ k. not (is_other_code (Byte k))) (counted_from low n) ≡ true → low ≤ b → b < low + n → is_other_code (Byte b) ≡ false
owned low n b e l h = is_off (is_other_code (Byte b)) (counted (λ k. not (is_other_code (Byte k))) low n b e l h)

pub other_06 : (b : ℕ) → 0x06 ≤ b → b ≤ 0x0a → is_other_code (Byte b) ≡ true
unfolding is_other_code
other_06 b l h = others 0x06 5 b refl l (omega (arith, h))

pub other_16 : (b : ℕ) → 0x16 ≤ b → b ≤ 0x19 → is_other_code (Byte b) ≡ true
unfolding is_other_code
other_16 b l h = others 0x16 4 b refl l (omega (arith, h))

pub other_1d : (b : ℕ) → 0x1d ≤ b → b ≤ 0x1f → is_other_code (Byte b) ≡ true
unfolding is_other_code
other_1d b l h = others 0x1d 3 b refl l (omega (arith, h))

pub other_27 : (b : ℕ) → 0x27 ≤ b → b ≤ 0x27 → is_other_code (Byte b) ≡ true
unfolding is_other_code
other_27 b l h = others 0x27 1 b refl l (omega (arith, h))

pub other_c5 : (b : ℕ) → 0xc5 ≤ b → b ≤ 0xcf → is_other_code (Byte b) ≡ true
unfolding is_other_code
other_c5 b l h = others 0xc5 11 b refl l (omega (arith, h))

pub other_d7 : (b : ℕ) → 0xd7 ≤ b → b ≤ 0xff → is_other_code (Byte b) ≡ true
unfolding is_other_code
other_d7 b l h = others 0xd7 41 b refl l (omega (arith, h))

pub owned_00 : (b : ℕ) → b ≤ 0x05 → is_other_code (Byte b) ≡ false
unfolding is_other_code
owned_00 b h = owned 0x00 6 b refl (omega arith) (omega (arith, h))

pub owned_0b : (b : ℕ) → 0x0b ≤ b → b ≤ 0x15 → is_other_code (Byte b) ≡ false
unfolding is_other_code
owned_0b b l h = owned 0x0b 11 b refl l (omega (arith, h))

pub owned_1a : (b : ℕ) → 0x1a ≤ b → b ≤ 0x1c → is_other_code (Byte b) ≡ false
unfolding is_other_code
owned_1a b l h = owned 0x1a 3 b refl l (omega (arith, h))

pub owned_20 : (b : ℕ) → 0x20 ≤ b → b ≤ 0x26 → is_other_code (Byte b) ≡ false
unfolding is_other_code
owned_20 b l h = owned 0x20 7 b refl l (omega (arith, h))

pub owned_28 : (b : ℕ) → 0x28 ≤ b → b ≤ 0xc4 → is_other_code (Byte b) ≡ false
unfolding is_other_code
owned_28 b l h = owned 0x28 157 b refl l (omega (arith, h))

pub owned_d0 : (b : ℕ) → 0xd0 ≤ b → b ≤ 0xd6 → is_other_code (Byte b) ≡ false
unfolding is_other_code
owned_d0 b l h = owned 0xd0 7 b refl l (omega (arith, h))

pub ruleset other_bytes = (other_06, other_16, other_1d, other_27, other_c5, other_d7, owned_00, owned_0b, owned_1a, owned_20, owned_28, owned_d0)

-- ---- codes

pub no_code : (bytes : List ℕ) → byte_at bytes ≡ None → code_at bytes ≡ None
unfolding byte_at code_at
no_code [] e = refl
no_code (b ∷ bs) e = absurd cc

pub code_after : (bytes : List ℕ) (b : ℕ) (rest : List ℕ) → byte_at bytes ≡ Some (b, rest) → code_at bytes ≡ code_from b rest
unfolding byte_at code_at
code_after [] b rest e = absurd cc
code_after (c ∷ cs) b rest e = ap (λ (p : ℕ × List ℕ). code_from p.0 p.1) (some_is (c, cs) (b, rest) e)

pub ruleset codes = (no_code, code_after)
