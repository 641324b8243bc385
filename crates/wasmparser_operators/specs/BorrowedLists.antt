-- Lists that operators borrow from the input: the bytes of a list, its number first.
use Rattle.std.specs.Iterator.{Count, at_most}
use Rattle.std.specs.Prelude.{◌≡◌, ◌==◌, ℕ, Bool, false, List, [], ◌∷◌, length, Option, Some, None}
use Rattle.wasm_core_read.specs.Reading.{unsigned_at}
use Rattle.wasm_core_read.specs.TypeReading.{items_at, list_at, val_type_at}
use Rattle.wasm_spec.specs.Bytes.{AreBytes}
use Rattle.wasm_spec.specs.Types.{ValType}
use Rattle.wasmparser_readers.specs.Passing.{read_or}

-- the labels that are counted from 0, and the one for other numbers
pub record LabelTable : Type 0 where
  pub labels : List ℕ
  pub default : ℕ

abbrev pub labels_of : List ℕ → List ℕ
labels_of bytes = read_or [] (list_at (unsigned_at 32) bytes)

-- the bytes are a list of labels, and nothing follows it
abbrev pub AreLabels : List ℕ → Type 0
AreLabels bytes = (list_at (unsigned_at 32) bytes ≡ Some (labels_of bytes, [])) × AreBytes bytes

abbrev pub types_of : List ℕ → List (ValType ℕ)
types_of bytes = read_or [] (list_at val_type_at bytes)

abbrev pub AreTypes : List ℕ → Type 0
AreTypes bytes = (list_at val_type_at bytes ≡ Some (types_of bytes, [])) × AreBytes bytes

-- the number of items of a list is 1
abbrev pub begins_with_one : Option (ℕ × List ℕ) → Bool
begins_with_one None = false
begins_with_one (Some count) = count.0 == 1

-- so many labels
abbrev pub some_labels : ℕ → List ℕ → List ℕ
some_labels count bytes = read_or [] (items_at (unsigned_at 32) count bytes)

abbrev pub AreSoMany : ℕ → List ℕ → Type 0
AreSoMany count bytes = items_at (unsigned_at 32) count bytes ≡ Some (some_labels count bytes, [])

-- What an iterator gave: the first of the labels that were left, and the others are left.
abbrev pub GivesLabel : List ℕ → List ℕ → Option ℕ → Type 0
GivesLabel old new None = (old ≡ []) × (new ≡ [])
GivesLabel old new (Some label) = old ≡ label ∷ new

-- as many as are left
abbrev pub at_most_labels : List ℕ → Count
at_most_labels labels = at_most (length labels)
