-- The encodings that an encoder writes: of each number the shortest, and with them lists, frames and sections. They are functions, beside the
-- relations that say which bytes are an encoding of which value; laws tie those of numbers and of type sections to them. Core Specification 3.0, Binary Format,
-- "Values" (integers), "Conventions" (lists) and "Modules" (sections).
use Rattle.std.specs.Prelude.{ℕ, zero, suc, ◌+◌, ◌-◌, ◌/◌, ◌%◌, ℤ, pos, negsuc, Bool, true, false, List, [], ◌∷◌, ◌++◌, length, nat_lt, if◌then◌else◌}
use Rattle.std.specs.List.{flat_map}

-- the bytes of a number, of which there are at most as many as more says, and one
unfoldable pub unsigned_bytes : ℕ → ℕ → List ℕ
unsigned_bytes zero n = n ∷ []
unsigned_bytes (suc more) n = if nat_lt n 128 then n ∷ [] else ((n % 128 + 128) ∷ unsigned_bytes more (n / 128))

-- An unsigned number: seven bits a byte, the lowest first, and 128 added to each byte but the last.
unfoldable pub unsigned_encoding : ℕ → List ℕ
unsigned_encoding n = unsigned_bytes n n

-- The low seven bits, in two's complement, of the number m, or where it is negative of -(m + 1).
abbrev pub low_bits : Bool → ℕ → ℕ
low_bits negative m = if negative then 127 - m % 128 else m % 128

-- the bytes of such a number, of which there are at most as many as more says, and one
unfoldable pub signed_bytes : ℕ → Bool → ℕ → List ℕ
signed_bytes zero negative m = low_bits negative m ∷ []
signed_bytes (suc more) negative m = if nat_lt m 64 then low_bits negative m ∷ [] else ((low_bits negative m + 128) ∷ signed_bytes more negative (m / 128))

-- the bytes of the number m, or where it is negative of -(m + 1)
unfoldable pub magnitude_encoding : Bool → ℕ → List ℕ
magnitude_encoding negative m = signed_bytes m negative m

-- A signed number: seven bits of its two's complement a byte, the lowest first, and 128 added to each byte but the last, whose bit of 64
-- is the sign.
abbrev pub signed_encoding : ℤ → List ℕ
signed_encoding (pos n) = magnitude_encoding false n
signed_encoding (negsuc n) = magnitude_encoding true n

-- a list: the number of its items, and their encodings
unfoldable pub list_encoding : {A : Type 0} → (A → List ℕ) → List A → List ℕ
list_encoding bytes items = unsigned_encoding (length items) ++ flat_map bytes items

-- a frame: the size of a content, and the content
unfoldable pub framed_encoding : List ℕ → List ℕ
framed_encoding content = unsigned_encoding (length content) ++ content

-- a section: its id, and its content in a frame
unfoldable pub section_encoding : ℕ → List ℕ → List ℕ
section_encoding id content = id ∷ framed_encoding content
