-- Numbers from bytes, and how many bytes a number takes.
use Rattle.std.proofs.Common.{◌≡◌, ℕ, zero, suc, ◌+◌, ◌-◌, ◌*◌, ◌/◌, ◌^◌, ◌<◌, ◌≤◌, List, [], ◌∷◌, length, get_or, take, drop, Bool, true, false, cond, nat_lt, refl, inl, inr, arith}
use Rattle.std.proofs.Math.Nat.{pow-le-pow_right, pow-suc}
use Rattle.std.proofs.lemmas.Nat.{mul-le}
use Rattle.std.proofs.lemmas.Bool.{cases_lt, lt-ltb, le-ltb}
use Rattle.std.proofs.lemmas.List.{take_all}
use Rattle.wasm_smith_unstructured.specs.Draws.{least_from, width, little_number}

pub power : (k : ℕ) → 256 ^ (k + 1) ≡ 256 * 256 ^ k
power k = let e : k + 1 ≡ suc k = omega arith in rw e (omega (arith, pow-suc 256 k))

pub power_most : (k : ℕ) → k ≤ 8 → 256 ^ k ≤ 2 ^ 64
power_most k le = let some : 0 < 256 = omega arith in pow-le-pow_right some le

-- one byte more, in front of the others or after them
pub room : (n b i : ℕ) → n < 256 ^ i → b < 256 → n * 256 + b < 256 ^ (i + 1)
room n b i low byte =
    let e = power i in
    rw e (omega arith)

pub room_64 : (n b i : ℕ) → n < 256 ^ i → b < 256 → i < 8 → n * 256 + b < 2 ^ 64
room_64 n b i low byte few =
    let le : i + 1 ≤ 8 = omega arith in
    omega (arith, room n b i low byte, power_most (i + 1) le)

-- ---- the least number that passes

pub least_most : (passes : ℕ → Bool) (k most j : ℕ) → k ≤ j → passes j ≡ true → least_from passes k most ≤ j
unfolding least_from
least_most passes k zero j le e = le
least_most passes k (suc most) j le e =
    elim (cases_lt k j) [
      | inl lt ↦ by_test (passes k) le (least_most passes (k + 1) most j (omega arith) e)
      | inr ge ↦ let same : k ≡ j = omega arith in let at_k : passes k ≡ true = rw same e in rw at_k le
    ]
  where
    by_test : (b : Bool) → k ≤ j → least_from passes (k + 1) most ≤ j → cond b k (least_from passes (k + 1) most) ≤ j
    by_test true le h = le
    by_test false le h = h

-- ---- the bytes that a number takes

pub width_least : (n k : ℕ) → n < 256 ^ k → width n ≤ k
unfolding width
width_least n k low = least_most (λ k. nat_lt n (256 ^ k)) 0 8 k (omega arith) (lt-ltb n (256 ^ k) low)

-- one more of so many as there may be
pub width_goes_on : (n count : ℕ) → count < 8 → 256 ^ count ≤ n → least_from (λ k. nat_lt n (256 ^ k)) count (8 - count) ≡ least_from (λ k. nat_lt n (256 ^ k)) (count + 1) (8 - (count + 1))
unfolding least_from
width_goes_on n count few high =
    let k : 8 - count ≡ suc (8 - (count + 1)) = omega arith in
    rw (k, le-ltb n (256 ^ count) high) refl

pub width_ends : (n count most : ℕ) → n < 256 ^ count → least_from (λ k. nat_lt n (256 ^ k)) count most ≡ count
unfolding least_from
width_ends n count zero low = refl
width_ends n count (suc most) low = rw (lt-ltb n (256 ^ count) low) refl

pub some_left : (left n p : ℕ) → left * p ≤ n → (left ≡ 0 → ⊥) → p ≤ n
some_left left n p low some =
    let le : 1 ≤ left = omega arith in
    omega (arith, mul-le 1 p left p le (omega arith))

pub few_left : (n count : ℕ) → n < 2 ^ 64 → 256 ^ count ≤ n → count < 8
few_left n count fits high =
    elim (cases_lt count 8) [
      | inl lt ↦ lt
      | inr ge ↦
          let some : 0 < 256 = omega arith in
          let most : 256 ^ 8 ≤ 256 ^ count = pow-le-pow_right some ge in
          absurd (omega arith)
    ]

-- a number is between left times p and one more time, and then so of a 256th of left
pub lower : (left n p : ℕ) → left * p ≤ n → left / 256 * (256 * p) ≤ n
lower left n p low =
    let le : left / 256 * 256 ≤ left = omega arith in
    omega (arith, mul-le (left / 256 * 256) p left p le (omega arith))

pub upper : (left n p : ℕ) → n < (left + 1) * p → n < (left / 256 + 1) * (256 * p)
upper left n p high =
    let le : left + 1 ≤ (left / 256 + 1) * 256 = omega arith in
    omega (arith, mul-le (left + 1) p ((left / 256 + 1) * 256) p le (omega arith))

-- ---- the least significant byte first

pub little_room : (b m k : ℕ) → b < 256 → m < 256 ^ k → b + 256 * m < 256 ^ (k + 1)
little_room b m k byte low =
    let e = power k in
    rw e (omega arith)

pub little_none : (bytes : List ℕ) → length bytes ≡ 0 → little_number bytes ≡ 0
unfolding little_number
little_none [] none = refl
little_none (b ∷ bytes) none = absurd (omega arith)

pub little_more : (bytes : List ℕ) (first others : ℕ) → 0 < length bytes → first ≡ get_or bytes 0 0 → others ≡ little_number (take (length bytes - 1) (drop 1 bytes)) → first + 256 * others ≡ little_number bytes
unfolding little_number
little_more [] first others some e h = absurd (omega arith)
little_more (b ∷ bytes) first others some e h =
    let all : take (length (b ∷ bytes) - 1) bytes ≡ bytes = take_all _ bytes (omega arith) in
    let rest : others ≡ little_number bytes = rw all at h in
    rw (e, rest) refl

-- ---- the number itself is enough of them

pub below_power : (n : ℕ) → n < 256 ^ n
below_power zero = omega arith
below_power (suc n) = omega (arith, pow-suc 256 n, below_power n)
