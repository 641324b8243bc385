-- What stands at the front of bytes that may be no module: complete sections, and some items of the next one.
use Rattle.std.specs.Prelude.{◌≡◌, ◌≤◌, ◌+◌, ℕ, Bool, List, [], ◌∷◌, ◌++◌, length, if◌then◌else◌, nat_eq}
use Rattle.wasm_spec.specs.Bytes.{IsU32, IsItems}
use Rattle.wasm_spec.specs.Grammar.{header, section_id, place_of, IsSection, AreOrdered, ComesAfter, last_of}
use Rattle.wasm_spec.specs.Syntax.{Section}
use Rattle.wasm_validity.specs.Entries.{Entry, OfTags, entries_of, IsItem}

-- what a section of this id says before its items
abbrev pub begun_by : ℕ → List Entry
begun_by id = if nat_eq id 13 then OfTags ∷ [] else []

-- The bytes begin with a section of this id that states so many items, and with some of them, whatever follows.
pub record BeginsWithItems (compact : Bool) (id : ℕ) (bytes : List ℕ) (items : List Entry) : Type 0 where
  pub stated : ℕ
  pub size : ℕ
  pub size_encoding : List ℕ
  pub count_encoding : List ℕ
  pub encoding : List ℕ
  pub rest : List ℕ
  pub begins : bytes ≡ id ∷ (size_encoding ++ (count_encoding ++ (encoding ++ rest)))
  pub sized : IsU32 size_encoding size
  -- these items lie in the section's frame, and that frame lies in the bytes
  pub inside : length count_encoding + length encoding ≤ size
  pub framed : size ≤ length count_encoding + (length encoding + length rest)
  pub counted : IsU32 count_encoding stated
  pub among : length items ≤ stated
  pub holds : IsItems (IsItem compact id) encoding items

-- The bytes begin with the header and complete sections in their order, which say this.
pub record HasSections (compact : Bool) (bytes : List ℕ) (entries : List Entry) : Type 0 where
  pub sections : List Section
  pub front : List ℕ
  pub rest : List ℕ
  pub begins : bytes ≡ header ++ (front ++ rest)
  pub holds : IsItems (IsSection compact) front sections
  pub ordered : AreOrdered 0 sections
  pub say : entries ≡ entries_of sections

-- The same with items at the front of a section after those.
pub record HasItems (compact : Bool) (bytes : List ℕ) (entries : List Entry) : Type 0 where
  pub before : List Entry
  pub complete : HasSections compact bytes before
  -- a section of the next one's kind, whose place comes after theirs
  pub like : Section
  pub comes_after : ComesAfter (last_of 0 complete.sections) (place_of like)
  pub items : List Entry
  pub begun : BeginsWithItems compact (section_id like) complete.rest items
  pub say : entries ≡ before ++ (begun_by (section_id like) ++ items)

-- what the bytes say at their front, as far as some point
pub data BeginsWith (compact : Bool) (bytes : List ℕ) (entries : List Entry) : Type 0 where
  complete : HasSections compact bytes entries → BeginsWith compact bytes entries
  within : HasItems compact bytes entries → BeginsWith compact bytes entries
