-- Unsigned numbers, byte by byte.
use Rattle.std.proofs.Common.{◌≡◌, ℕ, ◌+◌, ◌-◌, ◌*◌, ◌/◌, ◌%◌, ◌^◌, ◌<◌, ◌≤◌, true, false, ltb, leb, eqb, inl, inr, List, [], ◌∷◌, Option, Some, None, refl, sym, ap, ◌∙◌, arith}
use Rattle.std.proofs.lemmas.Bool.{le-ltb, lt-ltb, cases_lt, le-leb}
use Rattle.std.proofs.lemmas.Bool.Decides.{eqb_tells}
use Rattle.std.proofs.lemmas.Nat.{pow-add, shl_whole, pow_pos, div_below}
use Rattle.std.proofs.Math.Nat.{mul-le-mul_right}
use Rattle.std.proofs.Math.Pow.{pow_mono}
use Rattle.wasm_core_read.specs.Reading.{◌>>=◌, unsigned_at}

-- what is read, after the low part v that stands below u
abbrev pub with_low : ℕ → ℕ → Option (ℕ × List ℕ) → Option (ℕ × List ℕ)
with_low v u read = read >>= λ x. Some (v + x.0 * u, x.1)

-- one more group of bits
pub room : (v b shift left : ℕ) → v < 2 ^ shift → b < 2 ^ left → v + b * 2 ^ shift < 2 ^ (left + shift)
room v b shift left low high =
    let wide : 2 ^ (left + shift) ≡ 2 ^ left * 2 ^ shift = pow-add 2 left shift in
    let most : (b + 1) * 2 ^ shift ≤ 2 ^ left * 2 ^ shift = mul-le-mul_right (2 ^ shift) (omega arith) in
    omega arith

pub room_64 : (v b shift left : ℕ) → v < 2 ^ shift → b < 2 ^ left → left + shift ≤ 64 → v + (b * 2 ^ shift % 2 ^ 64) < 2 ^ 64
room_64 v b shift left low high within =
    let whole : b * 2 ^ shift % 2 ^ 64 ≡ b * 2 ^ shift = shl_whole b left shift 64 high within in
    let most : 2 ^ (left + shift) ≤ 2 ^ 64 = pow_mono within in
    omega (arith, room v b shift left low high)

pub ended : (v u left : ℕ) (rest : List ℕ) (total : Option (ℕ × List ℕ)) → rest ≡ [] → with_low v u (unsigned_at left rest) ≡ total → None ≡ total
unfolding unsigned_at
ended v u left rest total e so_far = (rw e at so_far)

pub last : (v u left b : ℕ) (rest after : List ℕ) (total : Option (ℕ × List ℕ)) → rest ≡ b ∷ after → b < 128 → ltb b (2 ^ left) ≡ true → with_low v u (unsigned_at left rest) ≡ total → Some (v + b * u, after) ≡ total
unfolding unsigned_at
last v u left b rest after total e small fits so_far =
    let t : ltb b 128 ≡ true = lt-ltb b 128 small in
    let one : with_low v u (unsigned_at left (b ∷ after)) ≡ Some (v + b * u, after) = rw (t, fits) refl in
    sym one ∙ (rw e at so_far)

pub too_wide : (v u left b : ℕ) (rest after : List ℕ) (total : Option (ℕ × List ℕ)) → rest ≡ b ∷ after → b < 128 → ltb b (2 ^ left) ≡ false → with_low v u (unsigned_at left rest) ≡ total → None ≡ total
unfolding unsigned_at
too_wide v u left b rest after total e small fits so_far =
    let t : ltb b 128 ≡ true = lt-ltb b 128 small in
    let one : with_low v u (unsigned_at left (b ∷ after)) ≡ None = rw (t, fits) refl in
    sym one ∙ (rw e at so_far)

pub too_long : (v u left b : ℕ) (rest after : List ℕ) (total : Option (ℕ × List ℕ)) → rest ≡ b ∷ after → 128 ≤ b → left ≤ 7 → with_low v u (unsigned_at left rest) ≡ total → None ≡ total
unfolding unsigned_at
too_long v u left b rest after total e large few so_far =
    let t : ltb b 128 ≡ false = le-ltb b 128 large in
    let s : ltb 7 left ≡ false = le-ltb 7 left few in
    let one : with_low v u (unsigned_at left (b ∷ after)) ≡ None = rw (t, s) refl in
    sym one ∙ (rw e at so_far)

regroup : (v u k : ℕ) (read : Option (ℕ × List ℕ)) → with_low v u (read >>= λ x. Some (k + 128 * x.0, x.1)) ≡ with_low (v + k * u) (u * 128) read
regroup v u k (Some x) = ap (λ (n : ℕ). Some (n, x.1)) (omega arith)
regroup v u k None = refl

pub more : (v shift left b : ℕ) (rest after : List ℕ) (total : Option (ℕ × List ℕ)) → rest ≡ b ∷ after → 128 ≤ b → 7 < left → with_low v (2 ^ shift) (unsigned_at left rest) ≡ total
    → with_low (v + (b - 128) * 2 ^ shift) (2 ^ (shift + 7)) (unsigned_at (left - 7) after) ≡ total
unfolding unsigned_at
more v shift left b rest after total e large many so_far =
    let t : ltb b 128 ≡ false = le-ltb b 128 large in
    let s : ltb 7 left ≡ true = lt-ltb 7 left many in
    let one : with_low v (2 ^ shift) (unsigned_at left (b ∷ after)) ≡ with_low (v + (b - 128) * 2 ^ shift) (2 ^ shift * 128) (unsigned_at (left - 7) after) = rw (t, s) (regroup v (2 ^ shift) (b - 128) (unsigned_at (left - 7) after)) in
    rw (pow-add 2 shift 7) (sym one ∙ (rw e at so_far))

pub seven_bits : (b bits : ℕ) → b < 128 → 7 ≤ bits → leb 7 bits ≡ ltb b (2 ^ bits)
seven_bits b bits small many =
    let most : 2 ^ 7 ≤ 2 ^ bits = pow_mono many in
    le-leb 7 bits many ∙ sym (lt-ltb b (2 ^ bits) (omega arith))

pub no_high_bits : (b bits : ℕ) → eqb (b / 2 ^ bits) 0 ≡ ltb b (2 ^ bits)
no_high_bits b bits =
    let some : 0 < 2 ^ bits = pow_pos bits in
    elim (eqb_tells (b / 2 ^ bits) 0) [
      | inl (t, e) ↦ let all : 2 ^ bits * (b / 2 ^ bits) ≡ 0 = rw e (omega arith) in t ∙ sym (lt-ltb b (2 ^ bits) (omega arith))
      | inr (t, ne) ↦ t ∙ sym (le-ltb b (2 ^ bits) (elim (cases_lt b (2 ^ bits)) [
        | inl lt ↦ absurd (ne (let q : b / 2 ^ bits < 1 = div_below b (2 ^ bits) 1 some (omega arith) in omega arith))
        | inr le ↦ le
      ]))
    ]
