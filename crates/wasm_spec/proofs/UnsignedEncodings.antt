-- The bytes of a number, one by one.
use Rattle.std.proofs.Common.{◌≡◌, ℕ, zero, suc, ◌+◌, ◌*◌, ◌/◌, ◌%◌, ◌^◌, ◌<◌, ◌≤◌, true, false, ltb, List, [], ◌∷◌, ◌++◌, length, inl, inr, refl, ap, ◌∙◌, arith, append_assoc}
use Rattle.std.proofs.lemmas.Bool.{le-ltb, lt-ltb, cases_lt}
use Rattle.std.proofs.lemmas.Nat.{div_below}
use Rattle.wasm_spec.specs.Shortest.{unsigned_bytes, unsigned_encoding}

-- so many bytes are enough
enough : (f g n : ℕ) → n ≤ f → n ≤ g → unsigned_bytes f n ≡ unsigned_bytes g n
unfolding unsigned_bytes
enough zero zero n p q = refl
enough zero (suc g) n p q = let t : ltb n 128 ≡ true = lt-ltb n 128 (omega arith) in rw t refl
enough (suc f) zero n p q = let t : ltb n 128 ≡ true = lt-ltb n 128 (omega arith) in rw t refl
enough (suc f) (suc g) n p q =
    elim (cases_lt n 128) [
      | inl lt ↦ let t : ltb n 128 ≡ true = lt-ltb n 128 lt in rw t refl
      | inr le ↦ let t : ltb n 128 ≡ false = le-ltb n 128 le in rw t (ap (λ bs. (n % 128 + 128) ∷ bs) (enough f g (n / 128) (omega arith) (omega arith)))
    ]

-- the last byte
pub unsigned_last : (n : ℕ) → n < 128 → unsigned_encoding n ≡ n ∷ []
unfolding unsigned_encoding unsigned_bytes
unsigned_last zero p = refl
unsigned_last (suc n) p = let t : ltb (suc n) 128 ≡ true = lt-ltb (suc n) 128 p in rw t refl

-- a byte before the others
pub unsigned_more : (n : ℕ) → 128 ≤ n → unsigned_encoding n ≡ (n % 128 + 128) ∷ unsigned_encoding (n / 128)
unfolding unsigned_encoding unsigned_bytes
unsigned_more zero p = absurd (omega arith)
unsigned_more (suc n) p =
    let t : ltb (suc n) 128 ≡ false = le-ltb (suc n) 128 p in
    rw t (ap (λ bs. (suc n % 128 + 128) ∷ bs) (enough n (suc n / 128) (suc n / 128) (omega arith) (omega arith)))

pub unsigned_length_last : (n : ℕ) → n < 128 → length (unsigned_encoding n) ≡ 1
unsigned_length_last n p = ap length (unsigned_last n p)

pub unsigned_length_more : (n : ℕ) → 128 ≤ n → length (unsigned_encoding n) ≡ length (unsigned_encoding (n / 128)) + 1
unsigned_length_more n p = ap length (unsigned_more n p) ∙ omega arith

-- there is a byte
pub some_bytes : (n : ℕ) → 1 ≤ length (unsigned_encoding n)
some_bytes n = elim (cases_lt n 128) [ inl lt ↦ omega (arith, unsigned_length_last n lt) | inr le ↦ omega (arith, unsigned_length_more n le) ]

-- a byte has been written
pub writes_more : (n : ℕ) (front : List ℕ) → 128 ≤ n → (front ++ (n % 128 + 128) ∷ []) ++ unsigned_encoding (n / 128) ≡ front ++ unsigned_encoding n
writes_more n front p = rw (unsigned_more n p, append_assoc) refl

-- one byte more for numbers 128 times as large
wider : (m k : ℕ) → ((n : ℕ) → n < m → length (unsigned_encoding n) ≤ k) → (n : ℕ) → n < m * 128 → length (unsigned_encoding n) ≤ k + 1
wider m k h n p =
    elim (cases_lt n 128) [
      | inl lt ↦ let one : length (unsigned_encoding n) ≡ 1 = unsigned_length_last n lt in omega arith
      | inr le ↦
          let below : n / 128 < m = div_below n 128 m (omega arith) p in
          omega (arith, unsigned_length_more n le, h (n / 128) below)
    ]

one_byte : (n : ℕ) → n < 128 → length (unsigned_encoding n) ≤ 1
one_byte n p = omega (arith, unsigned_length_last n p)

five_bytes : (n : ℕ) → n < 128 * 128 * 128 * 128 * 128 → length (unsigned_encoding n) ≤ 5
five_bytes = wider _ 4 (wider _ 3 (wider _ 2 (wider _ 1 one_byte)))

pub at_most_five : (n : ℕ) → n < 2 ^ 32 → length (unsigned_encoding n) ≤ 5
at_most_five n p = five_bytes n (omega arith)

pub at_most_ten : (n : ℕ) → n < 2 ^ 64 → length (unsigned_encoding n) ≤ 10
at_most_ten n p = wider _ 9 (wider _ 8 (wider _ 7 (wider _ 6 (wider _ 5 five_bytes)))) n (omega arith)

pub ruleset unsigned_steps = (unsigned_last, unsigned_length_last, unsigned_length_more, writes_more, at_most_ten)
