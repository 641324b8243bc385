-- Numbers at the front of some bytes.
use Rattle.std.proofs.Common.{◌≡◌, ℕ, ◌+◌, ◌*◌, ◌-◌, ◌<◌, ◌≤◌, ◌^◌, pos, negsuc, List, [], ◌∷◌, Some, length, take, drop, refl, sym, ap, subst, arith, inl, inr}
use Rattle.std.specs.Prelude.{slice_index_or}
use Rattle.std.proofs.lemmas.List.{length-drop, take_all}
use Rattle.std.proofs.Math.Pow.{pow_mono}
use Rattle.std.proofs.lemmas.Bool.{le-leb, lt-ltb}
use Rattle.wasm_core_read.proofs.Forms.{ltb_tells}
use Rattle.wasm_spec.specs.Bytes.{low_first}
use Rattle.wasm_spec.specs.Features.{Features}
use Rattle.wasmparser_operators.specs.OperatorReading.{alignment_at, memory_argument_at, offset_bits}
use Rattle.wasm_core_read.specs.Reading.{above, bytes_at, float_at, unsigned_at, signed_at, last_signed}
use Rattle.wasmparser_func_validator.specs.Plain.{IsPast, IsPastFloat, IsSignedEnd}

-- the first byte, and those after it
pub front_is : (bytes : List ℕ) → 1 ≤ length bytes → bytes ≡ slice_index_or bytes 0 0 ∷ take (length bytes - 1) (drop 1 bytes)
front_is [] some = absurd (omega (arith, some))
front_is (b ∷ bytes) some = ap (λ l. b ∷ l) (sym (take_all (length (b ∷ bytes) - 1) bytes (omega arith)))

pub one_unsigned : (bits b : ℕ) (rest : List ℕ) → b < 128 → b < 2 ^ bits → unsigned_at bits (b ∷ rest) ≡ Some (b, rest)
unfolding unsigned_at
one_unsigned bits b rest lt within = rw (lt-ltb b 128 lt, lt-ltb b (2 ^ bits) within) refl

pub one_signed : (bits b : ℕ) (rest : List ℕ) → IsSignedEnd bits b → IsPast bits (b ∷ rest) rest
unfolding signed_at last_signed
one_signed bits b rest end = elim (ltb_tells b 64) [
  | inl (t, low) ↦ (pos b, rw (lt-ltb b 128 end.0, t, lt-ltb _ (2 ^ (bits - 1)) (end.1 low)) refl)
  | inr (t, high) ↦ (negsuc (127 - b), rw (lt-ltb b 128 end.0, t, lt-ltb _ (2 ^ (bits - 1)) (end.2 high)) refl)
]

-- a number of one byte at the front
pub unsigned_front : (bits n : ℕ) (bytes : List ℕ) → 1 ≤ length bytes → slice_index_or bytes 0 0 < 128 → slice_index_or bytes 0 0 < 2 ^ bits → n ≡ slice_index_or bytes 0 0
    → unsigned_at bits bytes ≡ Some (n, take (length bytes - 1) (drop 1 bytes))
unsigned_front bits n bytes some lt within e =
    subst (λ l. unsigned_at bits l ≡ Some (n, take (length bytes - 1) (drop 1 bytes))) (sym (front_is bytes some))
    (subst (λ k. unsigned_at bits (slice_index_or bytes 0 0 ∷ take (length bytes - 1) (drop 1 bytes)) ≡ Some (k, take (length bytes - 1) (drop 1 bytes))) (sym e)
    (one_unsigned bits (slice_index_or bytes 0 0) (take (length bytes - 1) (drop 1 bytes)) lt within))

pub signed_front : (bits : ℕ) (bytes : List ℕ) → 1 ≤ length bytes → IsSignedEnd bits (slice_index_or bytes 0 0) → IsPast bits bytes (take (length bytes - 1) (drop 1 bytes))
signed_front bits bytes some end =
    subst (λ l. IsPast bits l (take (length bytes - 1) (drop 1 bytes))) (sym (front_is bytes some)) (one_signed bits (slice_index_or bytes 0 0) (take (length bytes - 1) (drop 1 bytes)) end)

-- one byte more
more_signed : (bits a : ℕ) (bytes rest : List ℕ) → 128 ≤ a → 7 < bits → IsPast (bits - 7) bytes rest → IsPast bits (a ∷ bytes) rest
unfolding signed_at
more_signed bits a bytes rest le lt past = elim (ltb_tells a 128) [
  | inl (t, low) ↦ absurd (omega (arith, low, le))
  | inr (t, high) ↦ (above (a - 128) 128 past.0, rw (t, lt-ltb 7 bits lt, past.1) refl)
]

more_unsigned : (bits a n : ℕ) (bytes rest : List ℕ) → 128 ≤ a → 7 < bits → unsigned_at (bits - 7) bytes ≡ Some (n, rest) → unsigned_at bits (a ∷ bytes) ≡ Some (a - 128 + 128 * n, rest)
unfolding unsigned_at
more_unsigned bits a n bytes rest le lt e = elim (ltb_tells a 128) [
  | inl (t, low) ↦ absurd (omega (arith, low, le))
  | inr (t, high) ↦ rw (t, lt-ltb 7 bits lt, e) refl
]

-- so many bits are room for a number below that power of two
pub room : (least bits n : ℕ) → least ≤ bits → n < 2 ^ least → n < 2 ^ bits
room least bits n le lt = omega (arith, lt, pow_mono {i = least} {j = bits} le)

-- seven bits are room for a byte
pub byte_ends : (bits b : ℕ) → 7 ≤ bits → b < 128 → IsSignedEnd bits b
byte_ends bits b le lt = (lt, (λ low. room 6 (bits - 1) b (omega (arith, le)) low), (λ high. room 6 (bits - 1) (127 - b) (omega (arith, le)) (omega (arith, high, lt))))

-- four bits are room for these
pub few_end : (bits b : ℕ) → 4 ≤ bits → b < 8 → IsSignedEnd bits b
few_end bits b le lt = (omega (arith, lt), (λ low. room 3 (bits - 1) b (omega (arith, le)) lt), (λ high. absurd (omega (arith, high, lt))))

pub last_end : (bits b : ℕ) → 4 ≤ bits → 120 ≤ b → b < 128 → IsSignedEnd bits b
last_end bits b le high lt = (lt, (λ low. absurd (omega (arith, low, high))), (λ h. room 3 (bits - 1) (127 - b) (omega (arith, le)) (omega (arith, high))))

pub longer_unsigned : (bits n : ℕ) (bytes rest : List ℕ) → 1 ≤ length bytes → 128 ≤ slice_index_or bytes 0 0 → 7 < bits → unsigned_at (bits - 7) (take (length bytes - 1) (drop 1 bytes)) ≡ Some (n, rest)
    → unsigned_at bits bytes ≡ Some (slice_index_or bytes 0 0 - 128 + 128 * n, rest)
longer_unsigned bits n bytes rest some le lt e =
    subst (λ l. unsigned_at bits l ≡ Some (slice_index_or bytes 0 0 - 128 + 128 * n, rest)) (sym (front_is bytes some)) (more_unsigned bits (slice_index_or bytes 0 0) n (take (length bytes - 1) (drop 1 bytes)) rest le lt e)

pub longer_signed : (bits : ℕ) (bytes rest : List ℕ) → 1 ≤ length bytes → 128 ≤ slice_index_or bytes 0 0 → 7 < bits → IsPast (bits - 7) (take (length bytes - 1) (drop 1 bytes)) rest → IsPast bits bytes rest
longer_signed bits bytes rest some le lt past =
    subst (λ l. IsPast bits l rest) (sym (front_is bytes some)) (more_signed bits (slice_index_or bytes 0 0) (take (length bytes - 1) (drop 1 bytes)) rest le lt past)

-- the bits of a float
pub float_front : (len : ℕ) (bytes : List ℕ) → len ≤ length bytes → IsPastFloat len bytes (take (length bytes - len) (drop len bytes))
unfolding float_at bytes_at
float_front len bytes le =
    let rest : take (length bytes - len) (drop len bytes) ≡ drop len bytes = take_all (length bytes - len) (drop len bytes) (omega (arith, length-drop len bytes)) in
    (low_first (take len bytes), rw (le-leb len (length bytes) le, rest) refl)

-- the first memory, and an offset
pub memory_reads : (features : Features) (exponent offset : ℕ) (bytes rest : List ℕ) → exponent < 64 → unsigned_at (offset_bits features) bytes ≡ Some (offset, rest)
    → memory_argument_at features (exponent ∷ bytes) ≡ Some (record { exponent = exponent; memory = 0; offset = offset }, rest)
unfolding memory_argument_at alignment_at
memory_reads features exponent offset bytes rest lt e =
    let flags : unsigned_at 32 (exponent ∷ bytes) ≡ Some (exponent, bytes) = one_unsigned 32 exponent bytes (omega (arith, lt)) (omega (arith, lt)) in
    rw (flags, lt-ltb exponent 64 lt, e) refl
