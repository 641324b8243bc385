-- Encodings of numbers.
use Rattle.std.proofs.Common.{ℕ, zero, suc, ◌+◌, ◌-◌, ◌*◌, ◌^◌, ◌<◌, ◌≤◌, List, [], ◌∷◌, length, arith}
use Rattle.std.specs.Prelude.{ℤ}
use Rattle.wasm_spec.specs.Bytes.{AreBytes, IsUnsigned, IsU32, IsSigned, IsS33}
use Rattle.wasm_spec.specs.Shortest.{unsigned_encoding}
use Rattle.wasm_spec.proofs.NumberLaws.{unsigned_spelled}

pub number_is : (n : ℕ) → n < 2 ^ 32 → IsU32 (unsigned_encoding n) n
number_is n fits = unsigned_spelled 32 n fits

signed_padded : (more bits : ℕ) (bytes : List ℕ) (z : ℤ) → bits ≤ 7 * more + 7 → IsSigned bits bytes z → length bytes ≤ more + 1
signed_padded more bits [] z few h = omega arith
signed_padded more bits (b ∷ []) z few h = omega arith
signed_padded zero bits (b ∷ c ∷ bs) z few h = absurd (omega (arith, few, h.2))
signed_padded (suc more) bits (b ∷ c ∷ bs) z few h = omega (arith, signed_padded more (bits - 7) (c ∷ bs) h.3 (omega (arith, few)) h.5)

-- A signed number of 33 bits is at most five bytes, also one that is padded.
pub signed_length : (bytes : List ℕ) (z : ℤ) → IsS33 bytes z → length bytes ≤ 5
signed_length bytes z h = signed_padded 4 33 bytes z (omega arith) h

bytes_of : (bits : ℕ) (bytes : List ℕ) (n : ℕ) → IsUnsigned bits bytes n → AreBytes bytes
bytes_of bits [] n h = tt
bytes_of bits (b ∷ []) n h = (omega (arith, h.0), tt)
bytes_of bits (b ∷ c ∷ bs) n h = (h.1, bytes_of (bits - 7) (c ∷ bs) h.3 h.5)

pub number_bytes : (n : ℕ) → n < 2 ^ 32 → AreBytes (unsigned_encoding n)
number_bytes n fits = bytes_of 32 (unsigned_encoding n) n (number_is n fits)
