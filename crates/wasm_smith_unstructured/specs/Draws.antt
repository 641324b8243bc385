-- Draws from the bytes that are left: the value, and the bytes that are left then.
use Rattle.std.specs.Prelude.{◌≡◌, ℕ, zero, suc, ◌+◌, ◌-◌, ◌*◌, ◌%◌, ◌^◌, List, [], ◌∷◌, length, take, drop, min, Bool, false, Option, Some, None, Result, Ok, Err, slice_get, nat_lt, nat_le, ◌==◌, if◌then◌else◌}
use Rattle.std.specs.Int.Digits.{number_from_digits}
use Rattle.std.specs.Str.Lossy.{utf8_valid_len}

-- The value that a call returned, seen by view, and the bytes that it left are the pair that is drawn.
abbrev pub IsDrawn : {X Y : Type 0} → (X → Y) → X → List ℕ → Y × List ℕ → Type 0
IsDrawn view x left drawn = drawn ≡ (view x, left)

-- The value of a call that returned one, seen by view.
abbrev pub given : {X Y E : Type 0} → (X → Y) → Result X E → Option Y
given view (Ok x) = Some (view x)
given view (Err e) = None

-- the low bit of a byte, and false at the end
unfoldable pub bool_at : List ℕ → Bool × List ℕ
bool_at [] = (false, [])
bool_at (b ∷ s) = (b % 2 == 1, s)

-- the number of some bytes, most significant first
abbrev pub big_number : List ℕ → ℕ
big_number bytes = number_from_digits 256 bytes

-- the number of some bytes, least significant first
unfoldable pub little_number : List ℕ → ℕ
little_number [] = 0
little_number (b ∷ bytes) = b + 256 * little_number bytes

-- the number of so many bytes, least significant first, or of those that are left
unfoldable pub little_at : ℕ → List ℕ → ℕ × List ℕ
little_at k s = (little_number (take k s), drop k s)

-- the least number from k on that passes, or k + most where none of the first most does
unfoldable pub least_from : (ℕ → Bool) → ℕ → ℕ → ℕ
least_from passes k zero = k
least_from passes k (suc most) = if passes k then k else least_from passes (k + 1) most

-- how many bytes a number below 256 ^ 8 takes, 0 taking none: the least k with the number below 256 ^ k
unfoldable pub width : ℕ → ℕ
width n = least_from (λ k. nat_lt n (256 ^ k)) 0 8

-- a number from a to b, of the bytes that b - a takes, or of those that are left, from the front, most significant first
unfoldable pub int_at : ℕ → ℕ → List ℕ → ℕ × List ℕ
int_at a b s = let k = width (b - a) in (a + big_number (take k s) % (b - a + 1), drop k s)

-- one of the things, where there are some
unfoldable pub choose_at : {A : Type 0} → List A → List ℕ → Option A × List ℕ
choose_at xs s = if length xs == 0 then (None, s) else (let i = int_at 0 (length xs - 1) s in (slice_get xs i.0, i.1))

-- whether a number from 1 to the denominator is at most the numerator
unfoldable pub ratio_at : ℕ → ℕ → List ℕ → Bool × List ℕ
ratio_at numerator denominator s = let n = int_at 1 denominator s in (nat_le n.0 numerator, n.1)

-- so many bytes, where so many are left
unfoldable pub bytes_at : ℕ → List ℕ → Option (List ℕ) × List ℕ
bytes_at n s = if nat_le n (length s) then (Some (take n s), drop n s) else (None, s)

-- A length, at most that of what is left then: of n bytes, n above 0, the last k are taken, as many as n - 1 takes, most significant first.
unfoldable pub len_at : List ℕ → ℕ × List ℕ
len_at s = if length s == 0 then (0, s) else
    (let left = length s - width (length s - 1) in (big_number (drop left s) % (left + 1), take left s))

-- the longest text at the front of as many bytes as the drawn length says, or of max where that is less
unfoldable pub text_at : ℕ → List ℕ → List ℕ × List ℕ
text_at max s =
    let n = len_at s in
    let k = utf8_valid_len (take (min n.0 max) n.1) in
    (take k n.1, drop k n.1)
