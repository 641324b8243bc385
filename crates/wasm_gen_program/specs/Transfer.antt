-- Reading a whole input and writing bytes whole, by the bytes that are known.
use Rattle.std.specs.Prelude.{◌≡◌, ◌<◌, ◌≤◌, ◌++◌, ℕ, List, length, take, Option}
use Rattle.std.specs.Io.KnownBytes.{Appends, Consumes, IsAtEnd}

-- at most so many bytes are read, and a list grows by them at its end
abbrev pub Gathers : Option (List ℕ) → Option (List ℕ) → ℕ → List ℕ → List ℕ → Type 0
Gathers old new most before after = (bytes : List ℕ) × Consumes old new bytes × (length bytes ≤ most) × (after ≡ before ++ bytes)

-- the bytes are all that was left, and they are read
abbrev pub ConsumesAll : Option (List ℕ) → Option (List ℕ) → List ℕ → Type 0
ConsumesAll old new bytes = Consumes old new bytes × IsAtEnd new

-- at most so many bytes are read
abbrev pub ConsumesUpTo : Option (List ℕ) → Option (List ℕ) → ℕ → Type 0
ConsumesUpTo old new most = (bytes : List ℕ) × Consumes old new bytes × (length bytes ≤ most)

-- more than so many bytes are read
abbrev pub ConsumesMore : Option (List ℕ) → Option (List ℕ) → ℕ → Type 0
ConsumesMore old new most = (bytes : List ℕ) × Consumes old new bytes × (most < length bytes)

-- the known bytes grow by a front of these bytes, not by all of them
abbrev pub AppendsFront : Option (List ℕ) → Option (List ℕ) → List ℕ → Type 0
AppendsFront old new bytes = (n : ℕ) × (n < length bytes) × Appends old new (take n bytes)
