-- The longest text at the front of some bytes.
use Rattle.std.proofs.Common.{◌≡◌, ℕ, zero, suc, ◌<◌, ◌≤◌, Bool, true, false, nat_le, Option, Some, List, [], length, take, drop, min, cond, refl, sym, ap, inl, inr, arith}
use Rattle.std.specs.Str.{IsUtf8, is_utf8}
use Rattle.std.specs.Str.Lossy.{utf8_valid_len, valid_len_up_to}
use Rattle.std.proofs.lemmas.Str.{IsUtf8-from_is_utf8, is_utf8-from_IsUtf8, utf8_valid_len_le}
use Rattle.std.proofs.lemmas.List.{take-append-drop, length-take, length-take-le, take-take}
use Rattle.std.proofs.lemmas.Bool.{cases_lt, le-leb}
use Rattle.wasm_smith_unstructured.specs.Draws.{bytes_at, len_at, text_at}
use Rattle.wasm_smith_unstructured.specs.Texts.{IsLongestText}

-- at a length: it is the longest up to n that is an encoding
pub up_to_is_text : (bytes : List ℕ) (n : ℕ) → IsUtf8 (take (valid_len_up_to bytes n) bytes)
up_to_is_text bytes zero = ([], (refl, refl))
up_to_is_text bytes (suc n) = by_test (is_utf8 (take (suc n) bytes)) refl (up_to_is_text bytes n)
  where
    by_test : (b : Bool) → is_utf8 (take (suc n) bytes) ≡ b → IsUtf8 (take (valid_len_up_to bytes n) bytes) → IsUtf8 (take (cond b (suc n) (valid_len_up_to bytes n)) bytes)
    by_test true e h = IsUtf8-from_is_utf8 _ e
    by_test false e h = h

pub up_to_is_longest : (bytes : List ℕ) (n k : ℕ) → valid_len_up_to bytes n < k → k ≤ n → IsUtf8 (take k bytes) → ⊥
up_to_is_longest bytes zero k lt le h = absurd (omega arith)
up_to_is_longest bytes (suc n) k lt le h = by_test (is_utf8 (take (suc n) bytes)) refl lt (λ above below. up_to_is_longest bytes n k above below h)
  where
    by_test : (b : Bool) → is_utf8 (take (suc n) bytes) ≡ b → cond b (suc n) (valid_len_up_to bytes n) < k → (valid_len_up_to bytes n < k → k ≤ n → ⊥) → ⊥
    by_test true e above shorter = absurd (omega arith)
    by_test false e above shorter =
        elim (cases_lt n k) [
          | inl lt ↦
              let same : k ≡ suc n = omega arith in
              let text : IsUtf8 (take (suc n) bytes) = rw same at h in
              let yes : is_utf8 (take (suc n) bytes) ≡ true = is_utf8-from_IsUtf8 _ text in
              cc
          | inr ge ↦ shorter above ge
        ]

pub valid_is_text : (bytes : List ℕ) → IsUtf8 (take (utf8_valid_len bytes) bytes)
unfolding utf8_valid_len
valid_is_text bytes = up_to_is_text bytes (length bytes)

pub valid_is_longest : (bytes : List ℕ) (k : ℕ) → utf8_valid_len bytes < k → k ≤ length bytes → IsUtf8 (take k bytes) → ⊥
unfolding utf8_valid_len
valid_is_longest bytes k lt le h = up_to_is_longest bytes (length bytes) k lt le h

-- ---- bytes that are there

pub peeked : (n : ℕ) (s front : List ℕ) → n ≤ length s → Some front ≡ (bytes_at n s).0 → front ≡ take n s
unfolding bytes_at
peeked n s front le h =
    let there : nat_le n (length s) ≡ true = le-leb n (length s) le in
    let same : Some front ≡ Some (take n s) = rw there at h in
    cc

pub taken : (n : ℕ) (s new : List ℕ) (x : Option (List ℕ)) → n ≤ length s → bytes_at n s ≡ (x, new) → new ≡ drop n s
unfolding bytes_at
taken n s new x le h =
    let there : nat_le n (length s) ≡ true = le-leb n (length s) le in
    let same : (Some (take n s), drop n s) ≡ (x, new) = rw there at h in
    sym (ap (λ p. p.1) same)

-- ---- what is drawn

pub valid_part : (n : ℕ) (left front text : List ℕ) → front ≡ take n left → text ≡ take (utf8_valid_len front) front → text ≡ take (utf8_valid_len (take n left)) left
valid_part n left front text e h =
    let few : utf8_valid_len (take n left) ≤ n = omega (arith, utf8_valid_len_le (take n left), length-take n left) in
    rw (h, e) (take-take (utf8_valid_len (take n left)) n left few)

pub valid_length : (n : ℕ) (left front text : List ℕ) → front ≡ take n left → text ≡ take (utf8_valid_len front) front → length text ≡ utf8_valid_len (take n left)
valid_length n left front text e h = rw (h, e) (length-take-le _ _ (utf8_valid_len_le (take n left)))

pub is_drawn : (max : ℕ) (s : List ℕ) (n : ℕ) (left front text new : List ℕ) → len_at s ≡ (n, left) → front ≡ take (min n max) left → text ≡ take (utf8_valid_len front) front → new ≡ drop (length text) left → text_at max s ≡ (text, new)
unfolding text_at
is_drawn max s n left front text new len e h rest =
    let k = utf8_valid_len (take (min n max) left) in
    let first : text ≡ take k left = valid_part (min n max) left front text e h in
    let second : new ≡ drop k left = rw (valid_length (min n max) left front text e h) at rest in
    rw (len, first, second) refl

pub is_longest : (max : ℕ) (s : List ℕ) (n : ℕ) (left front text new : List ℕ) → len_at s ≡ (n, left) → n ≤ length left → front ≡ take (min n max) left → text ≡ take (utf8_valid_len front) front → new ≡ drop (length text) left → IsLongestText max s text new
is_longest max s n left front text new len within e h rest =
    let f = take (min n max) left in
    let k = utf8_valid_len f in
    let first : text ≡ take k left = valid_part (min n max) left front text e h in
    let of_f : text ≡ take k f = rw e at h in
    let size : length text ≡ k = valid_length (min n max) left front text e h in
    let f_len : length f ≡ min n max = length-take-le (min n max) left (omega arith) in
    record {
      parts = rw (len, rest, size, first) (take-append-drop k left);
      utf8 = rw of_f (valid_is_text f);
      within = rw len (omega (arith, utf8_valid_len_le f));
      longest = λ j above below text_j.
          let few : j ≤ min n max = rw len at below in
          let same : take j f ≡ take j left = take-take j (min n max) left few in
          let of_left : IsUtf8 (take j left) = rw len at text_j in
          let of_f_j : IsUtf8 (take j f) = rw same of_left in
          valid_is_longest f j (omega arith) (omega arith) of_f_j;
    }
