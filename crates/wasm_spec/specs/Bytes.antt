-- Bytes, numbers, names, lists and frames: what the forms of the binary format are made of. An encoding of a value is a list of bytes that
-- encodes it; a frame is the size of a content, and the content.
-- Core Specification 3.0, Binary Format: "Conventions" (grammar, lists), "Values" (bytes, integers, floating-point, names) and "Modules" (sections).
use Rattle.std.specs.Prelude.{◌≡◌, ℕ, ◌+◌, ◌-◌, ◌*◌, ◌^◌, ◌<◌, ◌≤◌, ◌⊎◌, ℤ, pos, ◌+ℤ◌, ◌*ℤ◌, List, [], ◌∷◌, ◌++◌, length, Option, Some, None}
use Rattle.std.specs.List.{AllByRecursion}
use Rattle.std.specs.Str.{IsUtf8}

-- A byte is a number below 256.
abbrev pub IsByte : ℕ → Type 0
IsByte b = b < 256

abbrev pub AreBytes : List ℕ → Type 0
AreBytes encoding = AllByRecursion IsByte encoding

-- Any bytes are an encoding of themselves.
abbrev pub IsBytes : List ℕ → List ℕ → Type 0
IsBytes encoding bytes = AreBytes encoding × (bytes ≡ encoding)

-- So many bytes, as they are.
abbrev pub IsBytesOf : ℕ → List ℕ → List ℕ → Type 0
IsBytesOf n encoding bytes = IsBytes encoding bytes × (length bytes ≡ n)

-- An encoding of one byte (Values, "Bytes").
abbrev pub IsOneByte : List ℕ → ℕ → Type 0
IsOneByte encoding b = (encoding ≡ b ∷ []) × IsByte b

-- An unsigned number of at most so many bits in LEB128 (Values, "Integers"). A byte below 2 ^ 7 is the last one, and is below
-- 2 ^ bits. A byte of 2 ^ 7 or more stands only where more than seven bits are left; it gives its low seven bits, and the bytes after
-- it are a number of at most bits - 7 bits. So a number may be padded, but by no more bytes than its bits allow.
abbrev pub IsUnsigned : ℕ → List ℕ → ℕ → Type 0
IsUnsigned bits [] n = ⊥
IsUnsigned bits (b ∷ []) n = (b < 2 ^ 7) × (b < 2 ^ bits) × (n ≡ b)
IsUnsigned bits (b ∷ c ∷ bs) n = (2 ^ 7 ≤ b) × IsByte b × (7 < bits) × (m : ℕ) × (n ≡ 2 ^ 7 * m + (b - 2 ^ 7)) × IsUnsigned (bits - 7) (c ∷ bs) m

abbrev pub IsU32 : List ℕ → ℕ → Type 0
IsU32 encoding n = IsUnsigned 32 encoding n

abbrev pub IsU64 : List ℕ → ℕ → Type 0
IsU64 encoding n = IsUnsigned 64 encoding n

-- The last byte of a signed number of at most so many bits. One below 2 ^ 6 is the number itself, which is below 2 ^ (bits - 1). One
-- from 2 ^ 6 on, below 2 ^ 7, is 2 ^ 7 more than the number, which is -2 ^ (bits - 1) or above.
abbrev pub IsLastSigned : ℕ → ℕ → ℤ → Type 0
IsLastSigned bits b z =
    ((b < 2 ^ 6) × (b < 2 ^ (bits - 1)) × (z ≡ pos b))
    ⊎ ((2 ^ 6 ≤ b) × (b < 2 ^ 7) × (2 ^ 7 ≤ b + 2 ^ (bits - 1)) × (z +ℤ pos (2 ^ 7) ≡ pos b))

-- A signed number of at most so many bits in LEB128, in two's complement (Values, "Integers"). A byte of 2 ^ 7 or more stands only where
-- more than seven bits are left; it gives its low seven bits, and the bytes after it are a signed number of at most bits - 7 bits. So
-- the unused bits of the last byte are all its sign.
abbrev pub IsSigned : ℕ → List ℕ → ℤ → Type 0
IsSigned bits [] z = ⊥
IsSigned bits (b ∷ []) z = IsLastSigned bits b z
IsSigned bits (b ∷ c ∷ bs) z = (2 ^ 7 ≤ b) × IsByte b × (7 < bits) × (m : ℤ) × (z ≡ (pos (2 ^ 7) *ℤ m) +ℤ pos (b - 2 ^ 7)) × IsSigned (bits - 7) (c ∷ bs) m

abbrev pub IsS32 : List ℕ → ℤ → Type 0
IsS32 encoding z = IsSigned 32 encoding z

abbrev pub IsS33 : List ℕ → ℤ → Type 0
IsS33 encoding z = IsSigned 33 encoding z

abbrev pub IsS64 : List ℕ → ℤ → Type 0
IsS64 encoding z = IsSigned 64 encoding z

-- the number whose bytes these are, the lowest first
abbrev pub low_first : List ℕ → ℕ
low_first [] = 0
low_first (b ∷ bs) = b + 2 ^ 8 * low_first bs

-- The bits of a floating-point number, as a number: so many bytes, the lowest first (Values, "Floating-Point").
abbrev pub IsFloatBits : ℕ → List ℕ → ℕ → Type 0
IsFloatBits len encoding bits = AreBytes encoding × (length encoding ≡ len) × (bits ≡ low_first encoding)

abbrev pub IsF32 : List ℕ → ℕ → Type 0
IsF32 encoding bits = IsFloatBits 4 encoding bits

abbrev pub IsF64 : List ℕ → ℕ → Type 0
IsF64 encoding bits = IsFloatBits 8 encoding bits

-- One form after the other, with nothing between.
abbrev pub IsPair : {A B : Type 0} → (List ℕ → A → Type 0) → (List ℕ → B → Type 0) → List ℕ → A × B → Type 0
IsPair IsA IsB encoding both = (first others : List ℕ) × (encoding ≡ first ++ others) × IsA first both.0 × IsB others both.1

-- A code, which is a single byte, and after it what it announces.
abbrev pub IsMarked : {A : Type 0} → ℕ → (List ℕ → A → Type 0) → List ℕ → A → Type 0
IsMarked code IsA encoding value = (others : List ℕ) × (encoding ≡ code ∷ others) × IsA others value

-- The same with a code that is a u32, so that it may be padded.
abbrev pub IsNumbered : {A : Type 0} → ℕ → (List ℕ → A → Type 0) → List ℕ → A → Type 0
IsNumbered code IsA encoding value = (number others : List ℕ) × (encoding ≡ number ++ others) × IsU32 number code × IsA others value

-- A part that may be absent: what stands before it says whether it is there.
abbrev pub IsOptional : {A : Type 0} → (List ℕ → A → Type 0) → List ℕ → Option A → Type 0
IsOptional IsA encoding None = encoding ≡ []
IsOptional IsA encoding (Some value) = IsA encoding value

-- One item after the other, with nothing between and nothing after.
abbrev pub IsItems : {A : Type 0} → (List ℕ → A → Type 0) → List ℕ → List A → Type 0
IsItems IsA encoding [] = encoding ≡ []
IsItems IsA encoding (item ∷ items) = (first others : List ℕ) × (encoding ≡ first ++ others) × IsA first item × IsItems IsA others items

-- A list: the number of its items as u32, and the items (Conventions, "Lists").
abbrev pub IsList : {A : Type 0} → (List ℕ → A → Type 0) → List ℕ → List A → Type 0
IsList IsA encoding items = (count entries : List ℕ) × (encoding ≡ count ++ entries) × IsU32 count (length items) × IsItems IsA entries items

-- A frame: the number of the bytes of a content as u32, and the content, which is all of them (Modules, "Sections"; the bytes of a name
-- are written so too, as a list of bytes).
abbrev pub IsFramed : {A : Type 0} → (List ℕ → A → Type 0) → List ℕ → A → Type 0
IsFramed IsA encoding value = (size content : List ℕ) × (encoding ≡ size ++ content) × IsU32 size (length content) × IsA content value

-- A name: a list of bytes that are the UTF-8 of its characters (Values, "Names"). The value is the list of these bytes.
abbrev pub IsName : List ℕ → List ℕ → Type 0
IsName encoding name = IsFramed IsBytes encoding name × IsUtf8 name

-- An encoding of the value such that no other is shorter. This is what an encoder writes.
pub record IsShortest {A : Type 0} (IsA : List ℕ → A → Type 0) (encoding : List ℕ) (value : A) : Type 0 where
  pub encodes : IsA encoding value
  pub shortest : (other : List ℕ) → IsA other value → length encoding ≤ length other
