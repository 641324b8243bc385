-- Copies of types, with references shifted or narrowed.
use Rattle.std.specs.Prelude.{◌≡◌, ◌+◌, ◌%◌, ◌^◌, ℕ, List, Bool, true, false, not, nat_lt, if◌then◌else◌}
use Rattle.wasm_smith_unstructured.specs.Draws.{bool_at}
use Rattle.wasm_spec.specs.Types.{ValType, Ref, StorageType, Val, FieldType}

-- an index that is shifted by a number of 32 bits
abbrev pub shifted_index : ℕ → ℕ → ℕ → ℕ
shifted_index start by r = if nat_lt r start then r else (r + by) % 2 ^ 32

-- where drawn is true, a reference may be null or may not, as nullable says
abbrev pub varied : Bool → Bool → ValType ℕ → ValType ℕ
varied nullable false type = type
varied nullable true (Ref n heap) = Ref nullable heap
varied nullable true type = type

-- with one of the two
abbrev pub Varies : Bool → ValType ℕ → ValType ℕ → Type 0
Varies nullable a b = (drawn : Bool) × (a ≡ varied nullable drawn b)

abbrev pub narrowed_storage : Bool → StorageType ℕ → StorageType ℕ
narrowed_storage drawn (Val type) = Val (varied false drawn type)
narrowed_storage drawn type = type

-- A field that can't be set is narrowed; others stay.
abbrev pub narrowed_field : Bool → FieldType ℕ → FieldType ℕ
narrowed_field drawn field = if field.mutable then field else record { element_type = narrowed_storage drawn field.element_type; mutable = false }

abbrev pub IsNarrowedField : FieldType ℕ → FieldType ℕ → Type 0
IsNarrowedField a b = (drawn : Bool) × (a ≡ narrowed_field drawn b)

-- ---- draws

-- a reference that allows null or not, as nullable says, unless it does before, or the drawn bool is false
abbrev pub varied_at : Bool → ValType ℕ → List ℕ → ValType ℕ × List ℕ
varied_at true (Ref false heap) s = (Ref (bool_at s).0 heap, (bool_at s).1)
varied_at false (Ref true heap) s = (Ref (not (bool_at s).0) heap, (bool_at s).1)
varied_at nullable type s = (type, s)

abbrev pub narrowed_storage_at : StorageType ℕ → List ℕ → StorageType ℕ × List ℕ
narrowed_storage_at (Val type) s = (Val (varied_at false type s).0, (varied_at false type s).1)
narrowed_storage_at type s = (type, s)

-- a field that can't be set is narrowed where the drawn bool is true
abbrev pub narrowed_field_at : FieldType ℕ → List ℕ → FieldType ℕ × List ℕ
narrowed_field_at field s =
    if field.mutable then (field, s) else
    (record { element_type = (narrowed_storage_at field.element_type s).0; mutable = false }, (narrowed_storage_at field.element_type s).1)
