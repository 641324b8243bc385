-- Reading the front of a list of bytes, form by form. These functions are means of proof: the laws tie each to its form.
use Rattle.std.specs.Prelude.{◌≡◌, ℕ, Bool, true, false, ◌==◌, ◌+◌, ◌-◌, ◌*◌, ◌^◌, ℤ, pos, negsuc, List, [], ◌∷◌, length, take, drop, Option, Some, None, Result, Ok, Err, nat_lt, nat_le, if◌then◌else◌}
use Rattle.std.specs.Str.{is_utf8}
use Rattle.wasm_spec.specs.Bytes.{low_first}
use Rattle.wasm_core_read.specs.declared.malformed.Malformed.{Malformed}
use Rattle.wasm_core_read.specs.Input.{Input, GoesOn, IsWithin}

infixl 10 ◌>>=◌
-- the next step, if this one did not fail
abbrev pub ◌>>=◌ : {A B : Type 0} → Option A → (A → Option B) → Option B
(Some x) >>= f = f x
None >>= f = None

-- What a call on a reader returned, seen by view, is what reading gives. A refusal leaves the reader as it was.
abbrev pub Gives : {X Y : Type 0} → (X → Y) → Input → Input → Result X Malformed → Option (Y × List ℕ) → Type 0
Gives view old new (Ok x) read = (read ≡ Some (view x, new.rest)) × GoesOn old new
Gives view old new (Err e) read = (read ≡ None) × (new ≡ old) × IsWithin old e.offset

-- The same of a reader that is composed of others: a refusal leaves it somewhere between where it was and its end.
abbrev pub Answers : {X Y : Type 0} → (X → Y) → Input → Input → Result X Malformed → Option (Y × List ℕ) → Type 0
Answers view old new (Ok x) read = (read ≡ Some (view x, new.rest)) × GoesOn old new
Answers view old new (Err e) read = (read ≡ None) × GoesOn old new × IsWithin old e.offset

-- What a call returned that takes all of a reader's bytes.
abbrev pub AnswersAll : {X Y : Type 0} → (X → Y) → Input → Result X Malformed → Option Y → Type 0
AnswersAll view old (Ok x) read = read ≡ Some (view x)
AnswersAll view old (Err e) read = (read ≡ None) × IsWithin old e.offset

-- A way of reading: what the front of the bytes gives, and the rest.
abbrev pub ReadingOf : Type 0 → Type 0
ReadingOf A = List ℕ → Option (A × List ℕ)

unfoldable pub byte_at : List ℕ → Option (ℕ × List ℕ)
byte_at [] = None
byte_at (b ∷ rest) = Some (b, rest)

-- a number of at most so many bits
unfoldable pub unsigned_at : ℕ → List ℕ → Option (ℕ × List ℕ)
unsigned_at bits [] = None
unsigned_at bits (b ∷ rest) =
    if nat_lt b 128
    then (if nat_lt b (2 ^ bits) then Some (b, rest) else None)
    else (if nat_lt 7 bits then (unsigned_at (bits - 7) rest >>= λ x. Some (b - 128 + 128 * x.0, x.1)) else None)

-- what the last byte of a signed number of at most so many bits gives: the bits above these are its sign
unfoldable pub last_signed : ℕ → ℕ → Option ℤ
last_signed bits b =
    if nat_lt b 64
    then (if nat_lt b (2 ^ (bits - 1)) then Some (pos b) else None)
    else (if nat_lt (127 - b) (2 ^ (bits - 1)) then Some (negsuc (127 - b)) else None)

-- low + unit * z, where low is below unit
abbrev pub above : ℕ → ℕ → ℤ → ℤ
above low unit (pos n) = pos (low + n * unit)
above low unit (negsuc n) = negsuc (n * unit + (unit - 1 - low))

-- a signed number of at most so many bits
unfoldable pub signed_at : ℕ → List ℕ → Option (ℤ × List ℕ)
signed_at bits [] = None
signed_at bits (b ∷ rest) =
    if nat_lt b 128
    then (last_signed bits b >>= λ z. Some (z, rest))
    else (if nat_lt 7 bits then (signed_at (bits - 7) rest >>= λ x. Some (above (b - 128) 128 x.0, x.1)) else None)

-- so many bytes
unfoldable pub bytes_at : ℕ → List ℕ → Option (List ℕ × List ℕ)
bytes_at n bytes = if nat_le n (length bytes) then Some (take n bytes, drop n bytes) else None

-- the bits of a floating-point number of so many bytes
unfoldable pub float_at : ℕ → List ℕ → Option (ℕ × List ℕ)
float_at len bytes = bytes_at len bytes >>= λ x. Some (low_first x.0, x.1)

unfoldable pub name_at : List ℕ → Option (List ℕ × List ℕ)
name_at bytes = unsigned_at 32 bytes >>= λ n. bytes_at n.0 n.1 >>= λ x. if is_utf8 x.0 then Some x else None

-- ---- ways of reading that are made of others

-- what is read, as another value
abbrev pub seen_at : {A B : Type 0} → (A → B) → ReadingOf A → ReadingOf B
seen_at view a_at bytes = a_at bytes >>= λ a. Some (view a.0, a.1)

-- what is read where it passes a test
abbrev pub tested_at : {A : Type 0} → (A → Bool) → ReadingOf A → ReadingOf A
tested_at test a_at bytes = a_at bytes >>= λ a. if test a.0 then Some a else None

-- one form after the other
abbrev pub pair_at : {A B : Type 0} → ReadingOf A → ReadingOf B → ReadingOf (A × B)
pair_at a_at b_at bytes = a_at bytes >>= λ a. b_at a.1 >>= λ b. Some ((a.0, b.0), b.1)

-- a part that may be absent
abbrev pub optional_at : {A : Type 0} → Bool → ReadingOf A → ReadingOf (Option A)
optional_at false a_at bytes = Some (None, bytes)
optional_at true a_at bytes = seen_at (λ a. Some a) a_at bytes

-- after a byte, what it announces
abbrev pub announced_at : {A : Type 0} → (ℕ → ReadingOf A) → ReadingOf A
announced_at form [] = None
announced_at form (b ∷ rest) = form b rest

-- after a u32, what it announces
abbrev pub numbered_at : {A : Type 0} → (ℕ → ReadingOf A) → ReadingOf A
numbered_at form bytes = unsigned_at 32 bytes >>= λ n. form n.0 n.1

-- what stands after this code, where the code is this one, else what stands after others
abbrev pub after_code : {A : Type 0} → ℕ → ReadingOf A → (ℕ → ReadingOf A) → ℕ → ReadingOf A
after_code wanted a_at others code rest = if code == wanted then a_at rest else others code rest

-- a code after which nothing stands
abbrev pub bare_code : {A : Type 0} → ℕ → A → (ℕ → ReadingOf A) → ℕ → ReadingOf A
bare_code wanted x others code rest = if code == wanted then Some (x, rest) else others code rest

-- no code is left
abbrev pub no_code : {A : Type 0} → ℕ → ReadingOf A
no_code code rest = None

-- what is read where that is all of the bytes
abbrev pub filled : {A : Type 0} → Option (A × List ℕ) → Option A
filled None = None
filled (Some (x, [])) = Some x
filled (Some (x, b ∷ rest)) = None
