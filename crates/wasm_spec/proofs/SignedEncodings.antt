-- The bytes of a signed number, one by one.
use Rattle.std.proofs.Common.{◌≡◌, ℕ, zero, suc, ◌+◌, ◌*◌, ◌/◌, ◌^◌, ◌<◌, ◌≤◌, Bool, true, false, ltb, List, [], ◌∷◌, ◌++◌, length, inl, inr, refl, ap, ◌∙◌, arith, append_assoc}
use Rattle.std.proofs.lemmas.Bool.{le-ltb, lt-ltb, cases_lt}
use Rattle.std.proofs.lemmas.Nat.{div_below}
use Rattle.wasm_spec.specs.Shortest.{low_bits, signed_bytes, magnitude_encoding}

enough : (f g : ℕ) (negative : Bool) (n : ℕ) → n ≤ f → n ≤ g → signed_bytes f negative n ≡ signed_bytes g negative n
unfolding signed_bytes
enough zero zero negative n p q = refl
enough zero (suc g) negative n p q = let t : ltb n 64 ≡ true = lt-ltb n 64 (omega arith) in rw t refl
enough (suc f) zero negative n p q = let t : ltb n 64 ≡ true = lt-ltb n 64 (omega arith) in rw t refl
enough (suc f) (suc g) negative n p q =
    elim (cases_lt n 64) [
      | inl lt ↦ let t : ltb n 64 ≡ true = lt-ltb n 64 lt in rw t refl
      | inr le ↦ let t : ltb n 64 ≡ false = le-ltb n 64 le in rw t (ap (λ bs. (low_bits negative n + 128) ∷ bs) (enough f g negative (n / 128) (omega arith) (omega arith)))
    ]

-- the last byte
pub magnitude_last : (negative : Bool) (n : ℕ) → n < 64 → magnitude_encoding negative n ≡ low_bits negative n ∷ []
unfolding magnitude_encoding signed_bytes
magnitude_last negative zero p = refl
magnitude_last negative (suc n) p = let t : ltb (suc n) 64 ≡ true = lt-ltb (suc n) 64 p in rw t refl

-- a byte before the others
pub magnitude_more : (negative : Bool) (n : ℕ) → 64 ≤ n → magnitude_encoding negative n ≡ (low_bits negative n + 128) ∷ magnitude_encoding negative (n / 128)
unfolding magnitude_encoding signed_bytes
magnitude_more negative zero p = absurd (omega arith)
magnitude_more negative (suc n) p =
    let t : ltb (suc n) 64 ≡ false = le-ltb (suc n) 64 p in
    rw t (ap (λ bs. (low_bits negative (suc n) + 128) ∷ bs) (enough n (suc n / 128) negative (suc n / 128) (omega arith) (omega arith)))

pub magnitude_length_last : (negative : Bool) (n : ℕ) → n < 64 → length (magnitude_encoding negative n) ≡ 1
magnitude_length_last negative n p = ap length (magnitude_last negative n p)

pub magnitude_length_more : (negative : Bool) (n : ℕ) → 64 ≤ n → length (magnitude_encoding negative n) ≡ length (magnitude_encoding negative (n / 128)) + 1
magnitude_length_more negative n p = ap length (magnitude_more negative n p) ∙ omega arith

pub writes_magnitude : (negative : Bool) (n : ℕ) (front : List ℕ) → 64 ≤ n → (front ++ (low_bits negative n + 128) ∷ []) ++ magnitude_encoding negative (n / 128) ≡ front ++ magnitude_encoding negative n
writes_magnitude negative n front p = rw (magnitude_more negative n p, append_assoc) refl

wider : (m k : ℕ) (negative : Bool) → ((n : ℕ) → n < m → length (magnitude_encoding negative n) ≤ k) → (n : ℕ) → n < m * 128 → length (magnitude_encoding negative n) ≤ k + 1
wider m k negative h n p =
    elim (cases_lt n 64) [
      | inl lt ↦ let one : length (magnitude_encoding negative n) ≡ 1 = magnitude_length_last negative n lt in omega arith
      | inr le ↦
          let below : n / 128 < m = div_below n 128 m (omega arith) p in
          omega (arith, magnitude_length_more negative n le, h (n / 128) below)
    ]

one_byte : (negative : Bool) (n : ℕ) → n < 64 → length (magnitude_encoding negative n) ≤ 1
one_byte negative n p = omega (arith, magnitude_length_last negative n p)

five_bytes : (negative : Bool) (n : ℕ) → n < 64 * 128 * 128 * 128 * 128 → length (magnitude_encoding negative n) ≤ 5
five_bytes negative = wider _ 4 negative (wider _ 3 negative (wider _ 2 negative (wider _ 1 negative (one_byte negative))))

pub signed_at_most_five : (negative : Bool) (n : ℕ) → n < 2 ^ 32 → length (magnitude_encoding negative n) ≤ 5
signed_at_most_five negative n p = five_bytes negative n (omega arith)

pub signed_at_most_ten : (negative : Bool) (n : ℕ) → n < 2 ^ 63 → length (magnitude_encoding negative n) ≤ 10
signed_at_most_ten negative n p = wider _ 9 negative (wider _ 8 negative (wider _ 7 negative (wider _ 6 negative (wider _ 5 negative (five_bytes negative))))) n (omega arith)

pub ruleset signed_steps = (magnitude_last, magnitude_length_last, magnitude_length_more, writes_magnitude, signed_at_most_five, signed_at_most_ten)
