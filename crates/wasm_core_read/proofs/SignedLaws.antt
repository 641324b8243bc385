-- Signed numbers, byte by byte.
use Rattle.std.proofs.Common.{◌≡◌, ℕ, ◌+◌, ◌-◌, ◌*◌, ◌%◌, ◌^◌, ◌<◌, ◌≤◌, ℤ, pos, negsuc, ◌-ℤ◌, true, false, ltb, List, [], ◌∷◌, Option, Some, None, w64, to_z, of_z, refl, sym, ap, ◌∙◌, arith}
use Rattle.std.proofs.lemmas.Int.{ints}
use Rattle.std.proofs.lemmas.Bool.{le-ltb, lt-ltb, ltb-true}
use Rattle.std.proofs.lemmas.Nat.{pow-add, shl_whole}
use Rattle.std.proofs.Math.Nat.{add-mul}
use Rattle.std.proofs.Math.Pow.{pow_mono}
use Rattle.std.specs.Option.{option_map}
use Rattle.wasm_core_read.specs.Reading.{◌>>=◌, above, last_signed, signed_at}
use Rattle.wasm_core_read.proofs.UnsignedLaws.{room}

-- ---- the last byte

low_is : (bits b : ℕ) → b < 64 → ltb b (2 ^ (bits - 1)) ≡ true → last_signed bits b ≡ Some (pos b)
unfolding last_signed
low_is bits b small u = let t : ltb b 64 ≡ true = lt-ltb b 64 small in rw (t, u) refl

high_is : (bits b : ℕ) → 64 ≤ b → ltb (127 - b) (2 ^ (bits - 1)) ≡ true → last_signed bits b ≡ Some (negsuc (127 - b))
unfolding last_signed
high_is bits b large u = let t : ltb b 64 ≡ false = le-ltb b 64 large in rw (t, u) refl

pub low_refused : (f : ℤ → ℤ) (bits b : ℕ) → b < 64 → ltb b (2 ^ (bits - 1)) ≡ false → None ≡ option_map f (last_signed bits b)
unfolding last_signed
low_refused f bits b small u = let t : ltb b 64 ≡ true = lt-ltb b 64 small in rw (t, u) refl

pub high_refused : (f : ℤ → ℤ) (bits b : ℕ) → 64 ≤ b → ltb (127 - b) (2 ^ (bits - 1)) ≡ false → None ≡ option_map f (last_signed bits b)
unfolding last_signed
high_refused f bits b large u = let t : ltb b 64 ≡ false = le-ltb b 64 large in rw (t, u) refl

-- the bits of the last byte, shifted, and what stands below them
pub shifted : (v b shift bits : ℕ) → v < 2 ^ shift → 0 < bits → shift + bits ≤ 64 → ltb b (2 ^ (bits - 1)) ≡ true → (b * 2 ^ shift % 2 ^ 64 ≡ b * 2 ^ shift) × (b * 2 ^ shift + v < 2 ^ 63)
shifted v b shift bits low some within t =
    let fits : b < 2 ^ (bits - 1) = ltb-true _ _ t in
    let few : bits - 1 + shift ≤ 63 = omega (arith, some, within) in
    let most : 2 ^ (bits - 1 + shift) ≤ 2 ^ 63 = pow_mono few in
    (shl_whole b (bits - 1) shift 64 fits (omega arith), omega (arith, room v b shift (bits - 1) low fits, most))

-- the one bit above the low ones
pub unit : (shift bits : ℕ) → 0 < bits → shift + bits ≤ 64 → 1 * 2 ^ shift % 2 ^ 64 ≡ 2 ^ shift
unit shift bits some within = shl_whole 1 1 shift 64 (omega arith) (omega arith) ∙ omega arith

pub low_value : (low shift bits b : ℕ) → low < 2 ^ shift → 0 < bits → shift + bits ≤ 64 → b < 64 → ltb b (2 ^ (bits - 1)) ≡ true
    → Some (to_z w64 (b * 2 ^ shift % 2 ^ 64 + low)) ≡ option_map (above low (2 ^ shift)) (last_signed bits b)
low_value low shift bits b fits some within small t =
    let s = shifted low b shift bits fits some within t in
    let is : to_z w64 (b * 2 ^ shift % 2 ^ 64 + low) ≡ pos (low + b * 2 ^ shift) = rw s.0 (omega (arith, ints, s.1)) in
    rw (low_is bits b small t) (ap (λ (z : ℤ). Some z) is)

pub high_value : (low shift bits b : ℕ) → low < 2 ^ shift → 0 < bits → shift + bits ≤ 64 → 64 ≤ b → ltb (127 - b) (2 ^ (bits - 1)) ≡ true
    → Some (to_z w64 (of_z w64 (negsuc 0 -ℤ to_z w64 ((127 - b) * 2 ^ shift % 2 ^ 64 + (1 * 2 ^ shift % 2 ^ 64 - 1 - low))))) ≡ option_map (above low (2 ^ shift)) (last_signed bits b)
high_value low shift bits b fits some within large t =
    let s = shifted (2 ^ shift - 1 - low) (127 - b) shift bits (omega (arith, fits)) some within t in
    let is : to_z w64 (of_z w64 (negsuc 0 -ℤ to_z w64 ((127 - b) * 2 ^ shift % 2 ^ 64 + (1 * 2 ^ shift % 2 ^ 64 - 1 - low)))) ≡ negsuc ((127 - b) * 2 ^ shift + (2 ^ shift - 1 - low)) =
    rw (s.0, unit shift bits some within) (omega (arith, ints, s.1)) in
    rw (high_is bits b large t) (ap (λ (z : ℤ). Some z) is)

-- ---- the bytes before it

-- what is read, after the low part v that stands below u
abbrev pub with_low : ℕ → ℕ → Option (ℤ × List ℕ) → Option (ℤ × List ℕ)
with_low v u read = read >>= λ x. Some (above v u x.0, x.1)

nothing_below : (z : ℤ) → above 0 1 z ≡ z
nothing_below (pos n) = ap pos (omega arith)
nothing_below (negsuc n) = ap negsuc (omega arith)

-- a number, and what stands after it
abbrev pub followed : List ℕ → Option ℤ → Option (ℤ × List ℕ)
followed rest last = last >>= λ z. Some (z, rest)

-- the same of a number of one byte
pub one_byte : (bits b : ℕ) (bytes rest : List ℕ) (read : Option ℤ) → bytes ≡ b ∷ rest → b < 128 → read ≡ option_map (above 0 1) (last_signed bits b) → followed rest read ≡ signed_at bits bytes
unfolding signed_at
one_byte bits b bytes rest read is small e =
    let t : ltb b 128 ≡ true = lt-ltb b 128 small in
    let one : signed_at bits (b ∷ rest) ≡ followed rest read = rw (t, e) (sym (each (last_signed bits b))) in
    sym one ∙ ap (signed_at bits) (sym is)
  where
    each : (last : Option ℤ) → followed rest (option_map (above 0 1) last) ≡ followed rest last
    each (Some z) = ap (λ (y : ℤ). Some (y, rest)) (nothing_below z)
    each None = refl

pub ended : (v u left : ℕ) (rest : List ℕ) (total : Option (ℤ × List ℕ)) → rest ≡ [] → with_low v u (signed_at left rest) ≡ total → None ≡ total
unfolding signed_at
ended v u left rest total e so_far = (rw e at so_far)

pub last : (v u left b : ℕ) (rest after : List ℕ) (total : Option (ℤ × List ℕ)) (read : Option ℤ) → rest ≡ b ∷ after → b < 128 → read ≡ option_map (above v u) (last_signed left b) → with_low v u (signed_at left rest) ≡ total → followed after read ≡ total
unfolding signed_at
last v u left b rest after total read e small f so_far =
    let t : ltb b 128 ≡ true = lt-ltb b 128 small in
    let one : with_low v u (signed_at left (b ∷ after)) ≡ followed after read = rw (t, f) (each (last_signed left b)) in
    sym one ∙ (rw e at so_far)
  where
    each : (last : Option ℤ) → with_low v u (followed after last) ≡ followed after (option_map (above v u) last)
    each (Some z) = refl
    each None = refl

pub too_long : (v u left b : ℕ) (rest after : List ℕ) (total : Option (ℤ × List ℕ)) → rest ≡ b ∷ after → 128 ≤ b → left ≤ 7 → with_low v u (signed_at left rest) ≡ total → None ≡ total
unfolding signed_at
too_long v u left b rest after total e large few so_far =
    let t : ltb b 128 ≡ false = le-ltb b 128 large in
    let s : ltb 7 left ≡ false = le-ltb 7 left few in
    let one : with_low v u (signed_at left (b ∷ after)) ≡ None = rw (t, s) refl in
    sym one ∙ (rw e at so_far)

raised : (v u k : ℕ) (z : ℤ) → v < u → k < 128 → above v u (above k 128 z) ≡ above (v + k * u) (u * 128) z
raised v u k (pos n) low small = ap pos (omega arith)
raised v u k (negsuc n) low small =
    let parts : (127 - k) * u + k * u ≡ 127 * u = sym (add-mul (127 - k) k u) ∙ ap (λ (i : ℕ). i * u) (omega arith) in
    let all : (n * 128 + (127 - k)) * u ≡ n * 128 * u + (127 - k) * u = add-mul (n * 128) (127 - k) u in
    ap negsuc (omega (arith, parts, all))

regroup : (v u k : ℕ) (read : Option (ℤ × List ℕ)) → v < u → k < 128 → with_low v u (read >>= λ x. Some (above k 128 x.0, x.1)) ≡ with_low (v + k * u) (u * 128) read
regroup v u k (Some x) low small = ap (λ (z : ℤ). Some (z, x.1)) (raised v u k x.0 low small)
regroup v u k None low small = refl

pub more : (v shift left b : ℕ) (rest after : List ℕ) (total : Option (ℤ × List ℕ)) → v < 2 ^ shift → b < 256 → rest ≡ b ∷ after → 128 ≤ b → 7 < left → with_low v (2 ^ shift) (signed_at left rest) ≡ total
    → with_low (v + (b - 128) * 2 ^ shift) (2 ^ (shift + 7)) (signed_at (left - 7) after) ≡ total
unfolding signed_at
more v shift left b rest after total low byte e large many so_far =
    let t : ltb b 128 ≡ false = le-ltb b 128 large in
    let s : ltb 7 left ≡ true = lt-ltb 7 left many in
    let one : with_low v (2 ^ shift) (signed_at left (b ∷ after)) ≡ with_low (v + (b - 128) * 2 ^ shift) (2 ^ shift * 128) (signed_at (left - 7) after) = rw (t, s) (regroup v (2 ^ shift) (b - 128) (signed_at (left - 7) after) low (omega (arith, byte))) in
    rw (pow-add 2 shift 7) (sym one ∙ (rw e at so_far))
