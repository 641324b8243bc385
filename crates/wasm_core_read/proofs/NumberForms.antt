-- Reading of signed and of floating-point numbers is that of their forms.
use Rattle.std.proofs.Common.{◌≡◌, ℕ, ◌+◌, ◌-◌, ◌*◌, ◌^◌, ◌<◌, ◌≤◌, ℤ, pos, negsuc, ◌+ℤ◌, ◌*ℤ◌, true, false, ltb, leb, slice_index_or, take, drop, w32, FitsSigned, List, [], ◌∷◌, ◌++◌, length, Some, None, refl, sym, ap, subst, ◌∙◌, length-drop, arith, inl, inr}
use Rattle.std.proofs.lemmas.Int.{ints}
use Rattle.std.proofs.lemmas.Bool.{le-ltb, lt-ltb, le-leb, lt-leb}
use Rattle.std.proofs.lemmas.Nat.{pow-add}
use Rattle.std.proofs.Math.Seq.{take-length}
use Rattle.wasm_spec.specs.Bytes.{AreBytes, IsLastSigned, IsSigned, IsFloatBits, low_first}
use Rattle.wasm_core_read.specs.Laws.{ReadsExactly}
use Rattle.wasm_core_read.specs.Reading.{above, last_signed, signed_at, bytes_at, float_at}
use Rattle.wasm_core_read.proofs.Forms.{Found, bind_some, some_is, ltb_tells, parts_are, bytes_found, bytes_again}

-- ---- signed numbers

last_found : (bits b : ℕ) (z : ℤ) → b < 128 → last_signed bits b ≡ Some z → IsLastSigned bits b z
unfolding last_signed
last_found bits b z small e =
    elim (ltb_tells b 64) [
      | inl (t, low) ↦ elim (ltb_tells b (2 ^ (bits - 1))) [
        | inl (u, fits) ↦ inl (low, fits, sym (some_is (pos b) z (rw (t, u) at e)))
        | inr (u, large) ↦ let f = rw (t, u) at e in absurd cc
      ]
      | inr (t, high) ↦ elim (ltb_tells (127 - b) (2 ^ (bits - 1))) [
        | inl (u, fits) ↦ let is : negsuc (127 - b) ≡ z = some_is (negsuc (127 - b)) z (rw (t, u) at e) in inr (high, small, omega (arith, fits), omega (arith, ints, is))
        | inr (u, large) ↦ let f = rw (t, u) at e in absurd cc
      ]
    ]

last_again : (bits b : ℕ) (z : ℤ) → IsLastSigned bits b z → (b < 128) × (last_signed bits b ≡ Some z)
unfolding last_signed
last_again bits b z (inl h) =
    let t : ltb b 64 ≡ true = lt-ltb b 64 h.0 in
    let u : ltb b (2 ^ (bits - 1)) ≡ true = lt-ltb b (2 ^ (bits - 1)) h.1 in
    (omega (arith, h.0), rw (t, u) (ap (λ (y : ℤ). Some y) (sym h.2)))
last_again bits b z (inr h) =
    let t : ltb b 64 ≡ false = le-ltb b 64 h.0 in
    let u : ltb (127 - b) (2 ^ (bits - 1)) ≡ true = lt-ltb (127 - b) (2 ^ (bits - 1)) (omega (arith, h.1, h.2)) in
    let is : negsuc (127 - b) ≡ z = omega (arith, ints, h.1, h.3) in
    (h.1, rw (t, u) (ap (λ (y : ℤ). Some y) is))

above_is : (low : ℕ) (z : ℤ) → low < 128 → above low 128 z ≡ (pos 128 *ℤ z) +ℤ pos low
above_is low (pos n) small = omega (arith, ints)
above_is low (negsuc n) small = omega (arith, ints)

longer : (bits b : ℕ) (bytes : List ℕ) (high : ℤ) → 128 ≤ b → b < 256 → 7 < bits → IsSigned (bits - 7) bytes high → IsSigned bits (b ∷ bytes) (above (b - 128) 128 high)
longer bits b [] high large small many h = absurd h
longer bits b (c ∷ cs) high large small many h = (large, small, many, high, above_is (b - 128) high (omega (arith, small)), h)

pub signed_found : (bits : ℕ) (bytes : List ℕ) (v : ℤ) (rest : List ℕ) → AreBytes bytes → signed_at bits bytes ≡ Some (v, rest) → Found (IsSigned bits) bytes v rest
unfolding signed_at
signed_found bits [] v rest h e = absurd cc
signed_found bits (b ∷ bs) v rest h e =
    elim (ltb_tells b 128) [
      | inl (t, small) ↦
          let s = bind_some (last_signed bits b) (λ z. Some (z, bs)) (v, rest) (rw t at e) in
          subst (λ (x : ℤ × List ℕ). Found (IsSigned bits) (b ∷ bs) x.0 x.1) (some_is (s.0, bs) (v, rest) s.2) (b ∷ [], refl, last_found bits b s.0 small s.1)
      | inr (t, large) ↦ elim (ltb_tells 7 bits) [
        | inl (u, many) ↦
            let s = bind_some (signed_at (bits - 7) bs) (λ x. Some (above (b - 128) 128 x.0, x.1)) (v, rest) (rw (t, u) at e) in
            let ih = signed_found (bits - 7) bs s.0.0 s.0.1 h.1 s.1 in
            subst (λ (x : ℤ × List ℕ). Found (IsSigned bits) (b ∷ bs) x.0 x.1) (some_is (above (b - 128) 128 s.0.0, s.0.1) (v, rest) s.2)
            (b ∷ ih.0, ap (λ (l : List ℕ). b ∷ l) ih.1, longer bits b ih.0 s.0.0 large h.0 many ih.2)
        | inr (u, few) ↦ let f = rw (t, u) at e in absurd cc
      ]
    ]

pub signed_again : (bits : ℕ) (bytes : List ℕ) (v : ℤ) (rest : List ℕ) → IsSigned bits bytes v → signed_at bits (bytes ++ rest) ≡ Some (v, rest)
unfolding signed_at
signed_again bits [] v rest h = absurd h
signed_again bits (b ∷ []) v rest h =
    let l = last_again bits b v h in
    let t : ltb b 128 ≡ true = lt-ltb b 128 l.0 in
    rw (t, l.1) refl
signed_again bits (b ∷ c ∷ bs) v rest h =
    let t : ltb b 128 ≡ false = le-ltb b 128 h.0 in
    let u : ltb 7 bits ≡ true = lt-ltb 7 bits h.2 in
    let ih = signed_again (bits - 7) (c ∷ bs) h.3 rest h.5 in
    let is : above (b - 128) 128 h.3 ≡ v = above_is (b - 128) h.3 (omega (arith, h.1)) ∙ sym h.4 in
    rw (t, u, ih) (ap (λ (z : ℤ). Some (z, rest)) is)

pub reads_signed : (bits : ℕ) → ReadsExactly (IsSigned bits) (signed_at bits)
reads_signed bits = record { found = signed_found bits; again = signed_again bits }

-- ---- floating-point numbers

pub reads_float : (len : ℕ) → ReadsExactly (IsFloatBits len) (float_at len)
unfolding float_at
reads_float len = record {
  found = λ bytes v rest h e.
      let s = bind_some (bytes_at len bytes) (λ x. Some (low_first x.0, x.1)) (v, rest) e in
      let p = bytes_found len bytes s.0.0 s.0.1 s.1 in
      let are = (parts_are s.0.0 s.0.1 (subst AreBytes p.0 h)).0 in
      subst (λ (x : ℕ × List ℕ). Found (IsFloatBits len) bytes x.0 x.1) (some_is (low_first s.0.0, s.0.1) (v, rest) s.2) (s.0.0, p.0, (are, p.1, refl));
  again = λ encoding v rest h. rw (← h.1, bytes_again encoding rest) (ap (λ (n : ℕ). Some (n, rest)) (sym h.2));
}

pub no_float : (len : ℕ) (bytes : List ℕ) → length bytes < len → float_at len bytes ≡ None
unfolding float_at bytes_at
no_float len bytes few = let t : leb len (length bytes) ≡ false = lt-leb len (length bytes) few in rw t refl

whole_rest : (n : ℕ) (bytes : List ℕ) → take (length bytes - n) (drop n bytes) ≡ drop n bytes
whole_rest n bytes = rw (← length-drop n bytes) (take-length (drop n bytes))

pub four_bytes : (bytes : List ℕ) (n : ℕ) → 4 ≤ length bytes
    → n ≡ slice_index_or bytes 0 0 + slice_index_or bytes 1 0 * 256 + slice_index_or bytes 2 0 * 65536 + slice_index_or bytes 3 0 * 16777216
    → float_at 4 bytes ≡ Some (n, take (length bytes - 4) (drop 4 bytes))
unfolding float_at bytes_at
four_bytes (a ∷ b ∷ c ∷ d ∷ rest) n many e =
    let t : leb 4 (length (a ∷ b ∷ c ∷ d ∷ rest)) ≡ true = le-leb _ _ many in
    let value : a + 2 ^ 8 * (b + 2 ^ 8 * (c + 2 ^ 8 * (d + 2 ^ 8 * 0))) ≡ n = omega (arith, e) in
    let one : float_at 4 (a ∷ b ∷ c ∷ d ∷ rest) ≡ Some (n, rest) = rw t (ap (λ (m : ℕ). Some (m, rest)) value) in
    one ∙ ap (λ (l : List ℕ). Some (n, l)) (sym (whole_rest 4 (a ∷ b ∷ c ∷ d ∷ rest)))
four_bytes _ n many e = absurd (omega (arith, many))

pub eight_bytes : (bytes : List ℕ) (n : ℕ) → 8 ≤ length bytes
    → n ≡ slice_index_or bytes 0 0 + slice_index_or bytes 1 0 * 256 + slice_index_or bytes 2 0 * 65536 + slice_index_or bytes 3 0 * 16777216 + slice_index_or bytes 4 0 * 4294967296 + slice_index_or bytes 5 0 * 1099511627776 + slice_index_or bytes 6 0 * 281474976710656 + slice_index_or bytes 7 0 * 72057594037927936
    → float_at 8 bytes ≡ Some (n, take (length bytes - 8) (drop 8 bytes))
unfolding float_at bytes_at
eight_bytes (a ∷ b ∷ c ∷ d ∷ w ∷ x ∷ y ∷ z ∷ rest) n many e =
    let t : leb 8 (length (a ∷ b ∷ c ∷ d ∷ w ∷ x ∷ y ∷ z ∷ rest)) ≡ true = le-leb _ _ many in
    let value : a + 2 ^ 8 * (b + 2 ^ 8 * (c + 2 ^ 8 * (d + 2 ^ 8 * (w + 2 ^ 8 * (x + 2 ^ 8 * (y + 2 ^ 8 * (z + 2 ^ 8 * 0))))))) ≡ n = omega (arith, e) in
    let one : float_at 8 (a ∷ b ∷ c ∷ d ∷ w ∷ x ∷ y ∷ z ∷ rest) ≡ Some (n, rest) = rw t (ap (λ (m : ℕ). Some (m, rest)) value) in
    one ∙ ap (λ (l : List ℕ). Some (n, l)) (sym (whole_rest 8 (a ∷ b ∷ c ∷ d ∷ w ∷ x ∷ y ∷ z ∷ rest)))
eight_bytes _ n many e = absurd (omega (arith, many))

-- a signed number of at most so many bits, and the sign
abbrev pub IsWithinBits : ℕ → ℤ → Type 0
IsWithinBits bits (pos n) = n < 2 ^ bits
IsWithinBits bits (negsuc n) = n < 2 ^ bits

last_within : (bits b : ℕ) (z : ℤ) → IsLastSigned bits b z → IsWithinBits (bits - 1) z
last_within bits b (pos n) (inl h) = omega (arith, ints, h.1, h.2)
last_within bits b (pos n) (inr h) = absurd (omega (arith, ints, h.1, h.3))
last_within bits b (negsuc n) (inl h) = absurd (omega (arith, ints, h.2))
last_within bits b (negsuc n) (inr h) = omega (arith, ints, h.1, h.2, h.3)

more_within : (bits low : ℕ) (z m : ℤ) → 7 < bits → low < 128 → z ≡ (pos 128 *ℤ m) +ℤ pos low → 2 ^ (bits - 1) ≡ 2 ^ (bits - 7 - 1) * 128 → IsWithinBits (bits - 7 - 1) m → IsWithinBits (bits - 1) z
more_within bits low (pos n) (pos k) many small e wide h = omega (arith, ints, e, wide, h)
more_within bits low (pos n) (negsuc k) many small e wide h = absurd (omega (arith, ints, e))
more_within bits low (negsuc n) (pos k) many small e wide h = absurd (omega (arith, ints, e))
more_within bits low (negsuc n) (negsuc k) many small e wide h = omega (arith, ints, e, wide, h)

pub signed_within : (bits : ℕ) (bytes : List ℕ) (z : ℤ) → IsSigned bits bytes z → IsWithinBits (bits - 1) z
signed_within bits [] z h = absurd h
signed_within bits (b ∷ []) z h = last_within bits b z h
signed_within bits (b ∷ c ∷ bs) z h =
    let all : bits - 7 - 1 + 7 ≡ bits - 1 = omega (arith, h.2) in
    let wide : 2 ^ (bits - 1) ≡ 2 ^ (bits - 7 - 1) * 128 = ap (λ (k : ℕ). 2 ^ k) (sym all) ∙ pow-add 2 (bits - 7 - 1) 7 in
    more_within bits (b - 128) z h.3 h.2 (omega (arith, h.1)) h.4 wide (signed_within (bits - 7) (c ∷ bs) h.3 h.5)

fits_i32 : (z : ℤ) → IsWithinBits 31 z → FitsSigned w32 z
fits_i32 (pos n) h = omega (arith, ints, h)
fits_i32 (negsuc n) h = omega (arith, ints, h)

-- what is read as a number of 32 bits is one
pub read_fits : (bytes : List ℕ) (v : ℤ) (rest : List ℕ) → AreBytes bytes → Some (v, rest) ≡ signed_at 32 bytes → FitsSigned w32 v
read_fits bytes v rest h e = let f = signed_found 32 bytes v rest h (sym e) in fits_i32 v (signed_within 32 f.0 v f.2)
