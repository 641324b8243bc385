-- What is written of a number is an encoding of the grammar, and no encoding of the number is shorter.
use Rattle.std.proofs.Common.{◌≡◌, ℕ, zero, suc, ◌+◌, ◌-◌, ◌*◌, ◌/◌, ◌%◌, ◌^◌, ◌<◌, ◌≤◌, ℤ, pos, negsuc, ◌+ℤ◌, ◌*ℤ◌, true, false, ltb, List, [], ◌∷◌, length, inl, inr, refl, sym, ap, ◌∙◌, arith}
use Rattle.std.proofs.lemmas.Int.{ints}
use Rattle.std.proofs.lemmas.Bool.{le-ltb, lt-ltb, cases_lt}
use Rattle.std.proofs.lemmas.Nat.{pow-add, div_below}
use Rattle.std.proofs.Math.Pow.{pow_mono}
use Rattle.wasm_spec.specs.Bytes.{IsUnsigned, IsSigned, IsLastSigned, IsShortest}
use Rattle.wasm_spec.specs.Shortest.{unsigned_bytes, unsigned_encoding, signed_bytes, magnitude_encoding, signed_encoding}
use Rattle.wasm_spec.proofs.UnsignedEncodings.{unsigned_length_last, unsigned_length_more}
use Rattle.wasm_spec.proofs.SignedEncodings.{magnitude_length_last, magnitude_length_more}

-- a larger number has more than seven bits
many_bits : (bits n : ℕ) → 128 ≤ n → n < 2 ^ bits → 7 < bits
many_bits bits n p q =
    elim (cases_lt 7 bits) [
      | inl lt ↦ lt
      | inr le ↦ let most : 2 ^ bits ≤ 2 ^ 7 = pow_mono le in absurd (omega arith)
    ]

fewer_bits : (bits n : ℕ) → 7 < bits → n < 2 ^ bits → n / 128 < 2 ^ (bits - 7)
fewer_bits bits n many q =
    let all : bits - 7 + 7 ≡ bits = omega arith in
    let wide : 2 ^ bits ≡ 2 ^ (bits - 7) * 128 = ap (λ (k : ℕ). 2 ^ k) (sym all) ∙ pow-add 2 (bits - 7) 7 in
    div_below n 128 (2 ^ (bits - 7)) (omega arith) (omega arith)

-- ---- unsigned numbers

-- a byte in front of an encoding
unsigned_longer : (bits b : ℕ) (bytes : List ℕ) (high n : ℕ) → 128 ≤ b → b < 256 → 7 < bits → n ≡ 128 * high + (b - 128) → IsUnsigned (bits - 7) bytes high → IsUnsigned bits (b ∷ bytes) n
unsigned_longer bits b [] high n large small many e h = absurd h
unsigned_longer bits b (c ∷ cs) high n large small many e h = (large, small, many, high, e, h)

bytes_spelled : (f bits n : ℕ) → n ≤ f → n < 2 ^ bits → IsUnsigned bits (unsigned_bytes f n) n
unfolding unsigned_bytes
bytes_spelled zero bits n p q = (omega arith, q, refl)
bytes_spelled (suc f) bits n p q =
    elim (cases_lt n 128) [
      | inl lt ↦ let t : ltb n 128 ≡ true = lt-ltb n 128 lt in rw t (lt, q, refl)
      | inr le ↦
          let t : ltb n 128 ≡ false = le-ltb n 128 le in
          let many : 7 < bits = many_bits bits n le q in
          let rest = bytes_spelled f (bits - 7) (n / 128) (omega arith) (fewer_bits bits n many q) in
          rw t (unsigned_longer bits (n % 128 + 128) (unsigned_bytes f (n / 128)) (n / 128) n (omega arith) (omega arith) many (omega arith) rest)
    ]

pub unsigned_spelled : (bits n : ℕ) → n < 2 ^ bits → IsUnsigned bits (unsigned_encoding n) n
unfolding unsigned_encoding
unsigned_spelled bits n p = bytes_spelled n bits n (omega arith) p

pub unsigned_shortest : (bits n : ℕ) (bytes : List ℕ) → IsUnsigned bits bytes n → length (unsigned_encoding n) ≤ length bytes
unsigned_shortest bits n [] h = absurd h
unsigned_shortest bits n (b ∷ []) h = omega (arith, unsigned_length_last n (omega (arith, h.0, h.2)))
unsigned_shortest bits n (b ∷ c ∷ cs) h =
    elim (cases_lt n 128) [
      | inl lt ↦ omega (arith, unsigned_length_last n lt)
      | inr le ↦
          let high : n / 128 ≡ h.3 = omega (arith, h.0, h.1, h.4) in
          let rest = unsigned_shortest (bits - 7) h.3 (c ∷ cs) h.5 in
          let same : length (unsigned_encoding (n / 128)) ≡ length (unsigned_encoding h.3) = ap (λ (k : ℕ). length (unsigned_encoding k)) high in
          omega (arith, unsigned_length_more n le, rest, same)
    ]

pub shortest_unsigned : (bits n : ℕ) → n < 2 ^ bits → IsShortest (IsUnsigned bits) (unsigned_encoding n) n
shortest_unsigned bits n p = record { encodes = unsigned_spelled bits n p; shortest = λ other h. unsigned_shortest bits n other h }

-- ---- signed numbers

signed_longer : (bits b : ℕ) (bytes : List ℕ) (high z : ℤ) → 128 ≤ b → b < 256 → 7 < bits → z ≡ (pos 128 *ℤ high) +ℤ pos (b - 128) → IsSigned (bits - 7) bytes high → IsSigned bits (b ∷ bytes) z
signed_longer bits b [] high z large small many e h = absurd h
signed_longer bits b (c ∷ cs) high z large small many e h = (large, small, many, high, e, h)

many_signed : (bits m : ℕ) → 64 ≤ m → m < 2 ^ (bits - 1) → 7 < bits
many_signed bits m p q =
    elim (cases_lt 7 bits) [
      | inl lt ↦ lt
      | inr le ↦ let less : bits - 1 ≤ 6 = omega arith in let most : 2 ^ (bits - 1) ≤ 2 ^ 6 = pow_mono less in absurd (omega arith)
    ]

fewer_signed : (bits m : ℕ) → 7 < bits → m < 2 ^ (bits - 1) → m / 128 < 2 ^ (bits - 7 - 1)
fewer_signed bits m many q =
    let all : bits - 7 - 1 + 7 ≡ bits - 1 = omega arith in
    let wide : 2 ^ (bits - 1) ≡ 2 ^ (bits - 7 - 1) * 128 = ap (λ (k : ℕ). 2 ^ k) (sym all) ∙ pow-add 2 (bits - 7 - 1) 7 in
    div_below m 128 (2 ^ (bits - 7 - 1)) (omega arith) (omega arith)

step_pos : (m : ℕ) → pos m ≡ (pos 128 *ℤ pos (m / 128)) +ℤ pos (m % 128 + 128 - 128)
step_pos m = omega (arith, ints)

step_neg : (m : ℕ) → negsuc m ≡ (pos 128 *ℤ negsuc (m / 128)) +ℤ pos (127 - m % 128 + 128 - 128)
step_neg m = omega (arith, ints)

last_pos : (m : ℕ) → m < 64 → pos m ≡ pos (m % 128)
last_pos m p = omega (arith, ints)

last_neg : (m : ℕ) → m < 64 → negsuc m +ℤ pos 128 ≡ pos (127 - m % 128)
last_neg m p = omega (arith, ints)

pos_spelled : (f bits m : ℕ) → m ≤ f → m < 2 ^ (bits - 1) → IsSigned bits (signed_bytes f false m) (pos m)
unfolding signed_bytes
pos_spelled zero bits m p q = inl (omega arith, omega arith, last_pos m (omega arith))
pos_spelled (suc f) bits m p q =
    elim (cases_lt m 64) [
      | inl lt ↦ let t : ltb m 64 ≡ true = lt-ltb m 64 lt in rw t (inl (omega arith, omega arith, last_pos m lt))
      | inr le ↦
          let t : ltb m 64 ≡ false = le-ltb m 64 le in
          let many : 7 < bits = many_signed bits m le q in
          let rest = pos_spelled f (bits - 7) (m / 128) (omega arith) (fewer_signed bits m many q) in
          rw t (signed_longer bits (m % 128 + 128) (signed_bytes f false (m / 128)) (pos (m / 128)) (pos m) (omega arith) (omega arith) many (step_pos m) rest)
    ]

neg_spelled : (f bits m : ℕ) → m ≤ f → m < 2 ^ (bits - 1) → IsSigned bits (signed_bytes f true m) (negsuc m)
unfolding signed_bytes
neg_spelled zero bits m p q = inr (omega arith, omega arith, omega arith, last_neg m (omega arith))
neg_spelled (suc f) bits m p q =
    elim (cases_lt m 64) [
      | inl lt ↦ let t : ltb m 64 ≡ true = lt-ltb m 64 lt in rw t (inr (omega arith, omega arith, omega arith, last_neg m lt))
      | inr le ↦
          let t : ltb m 64 ≡ false = le-ltb m 64 le in
          let many : 7 < bits = many_signed bits m le q in
          let rest = neg_spelled f (bits - 7) (m / 128) (omega arith) (fewer_signed bits m many q) in
          rw t (signed_longer bits (127 - m % 128 + 128) (signed_bytes f true (m / 128)) (negsuc (m / 128)) (negsuc m) (omega arith) (omega arith) many (step_neg m) rest)
    ]

pub positive_spelled : (bits m : ℕ) → m < 2 ^ (bits - 1) → IsSigned bits (signed_encoding (pos m)) (pos m)
unfolding magnitude_encoding
positive_spelled bits m q = pos_spelled m bits m (omega arith) q

pub negative_spelled : (bits m : ℕ) → m < 2 ^ (bits - 1) → IsSigned bits (signed_encoding (negsuc m)) (negsuc m)
unfolding magnitude_encoding
negative_spelled bits m q = neg_spelled m bits m (omega arith) q

-- one byte is enough for what one byte encodes
one_signed : (z : ℤ) (bits b : ℕ) → IsLastSigned bits b z → length (signed_encoding z) ≡ 1
one_signed (pos n) bits b (inl h) = magnitude_length_last false n (omega (arith, ints, h.0, h.2))
one_signed (pos n) bits b (inr h) = absurd (omega (arith, ints, h.1, h.3))
one_signed (negsuc n) bits b (inl h) = absurd (omega (arith, ints, h.2))
one_signed (negsuc n) bits b (inr h) = magnitude_length_last true n (omega (arith, ints, h.0, h.3))

-- a number's encoding has at most a byte more than that of the number without its low seven bits
one_more : (z m : ℤ) (low len : ℕ) → low < 128 → 1 ≤ len → z ≡ (pos 128 *ℤ m) +ℤ pos low → length (signed_encoding m) ≤ len → length (signed_encoding z) ≤ len + 1
one_more (pos n) (pos k) low len small some e h =
    elim (cases_lt n 64) [
      | inl lt ↦ omega (arith, magnitude_length_last false n lt)
      | inr le ↦
          let high : n / 128 ≡ k = omega (arith, ints, e) in
          omega (arith, magnitude_length_more false n le, ap (λ (i : ℕ). length (magnitude_encoding false i)) high)
    ]
one_more (negsuc n) (negsuc k) low len small some e h =
    elim (cases_lt n 64) [
      | inl lt ↦ omega (arith, magnitude_length_last true n lt)
      | inr le ↦
          let high : n / 128 ≡ k = omega (arith, ints, e) in
          omega (arith, magnitude_length_more true n le, ap (λ (i : ℕ). length (magnitude_encoding true i)) high)
    ]
one_more (pos n) (negsuc k) low len small some e h = absurd (omega (arith, ints, e))
one_more (negsuc n) (pos k) low len small some e h = absurd (omega (arith, ints, e))

pub signed_shortest : (bits : ℕ) (z : ℤ) (bytes : List ℕ) → IsSigned bits bytes z → length (signed_encoding z) ≤ length bytes
signed_shortest bits z [] h = absurd h
signed_shortest bits z (b ∷ []) h = omega (arith, one_signed z bits b h)
signed_shortest bits z (b ∷ c ∷ cs) h =
    let rest = signed_shortest (bits - 7) h.3 (c ∷ cs) h.5 in
    omega (arith, one_more z h.3 (b - 128) (length (c ∷ cs)) (omega (arith, h.1)) (omega arith) h.4 rest)

pub shortest_positive : (bits m : ℕ) → m < 2 ^ (bits - 1) → IsShortest (IsSigned bits) (signed_encoding (pos m)) (pos m)
shortest_positive bits m p = record { encodes = positive_spelled bits m p; shortest = λ other h. signed_shortest bits (pos m) other h }

pub shortest_negative : (bits m : ℕ) → m < 2 ^ (bits - 1) → IsShortest (IsSigned bits) (signed_encoding (negsuc m)) (negsuc m)
shortest_negative bits m p = record { encodes = negative_spelled bits m p; shortest = λ other h. signed_shortest bits (negsuc m) other h }
