-- What is promised of writing.
use Rattle.std.specs.Prelude.{◌≡◌, ◌≤◌, ◌<◌, ◌+◌, ◌^◌, ◌++◌, ◌↔◌, ℕ, List, length, slice_get, Option, None, Result, Ok, Err, Vec, vec_len, vec_capacity}
use Rattle.std.specs.Option.{option_map}
use Rattle.wasm_spec.specs.Shortest.{list_encoding}
use Rattle.wasm_core_write.specs.declared.encode_error.EncodeError.{EncodeError}
use Rattle.wasm_core_write.specs.declared.encode_error.EncodeError.TheVariants as errors

-- An encoding is appended. A refusal, which comes only where room was missing, leaves the sink as it was. The capacity never shrinks.
abbrev pub Appends : {E Z : Type 0} → Vec ℕ Z → Vec ℕ Z → Result (Unit {0}) E → List ℕ → Type 0
Appends old new (Ok x) encoding = (new.items ≡ old.items ++ encoding) × (vec_capacity old ≤ vec_capacity new)
Appends old new (Err e) encoding = (new.items ≡ old.items) × (vec_capacity old < vec_len old + length encoding) × (vec_capacity old ≤ vec_capacity new)

-- A length is told where the longest count, run or length in an encoding is within 32 bits, and refused elsewhere.
abbrev pub Measures : Result ℕ EncodeError → ℕ → ℕ → Type 0
Measures (Ok n) len longest = (n ≡ len) × (longest < 2 ^ 32)
Measures (Err errors.Memory) len longest = ⊥
Measures (Err errors.TooLong) len longest = 2 ^ 32 ≤ longest

-- An encoding is appended where the longest count, run or length in it is within 32 bits. A refusal leaves the sink's bytes as they were, and
-- names its cause: it is out of memory only where room was missing. The capacity never shrinks.
abbrev pub Encodes : {Z : Type 0} → Vec ℕ Z → Vec ℕ Z → Result (Unit {0}) EncodeError → List ℕ → ℕ → Type 0
Encodes old new (Ok x) encoding longest = (new.items ≡ old.items ++ encoding) × (longest < 2 ^ 32) × (vec_capacity old ≤ vec_capacity new)
Encodes old new (Err errors.Memory) encoding longest = (new.items ≡ old.items) × (longest < 2 ^ 32) × (vec_capacity old < vec_len old + length encoding) × (vec_capacity old ≤ vec_capacity new)
Encodes old new (Err errors.TooLong) encoding longest = (new ≡ old) × (2 ^ 32 ≤ longest)

-- The length of the encoding of an item is told: None exactly past the last, and else right wherever the encoding of the list is within 32 bits.
abbrev pub TellsItem : {A : Type 0} → (A → List ℕ) → List A → ℕ → Option ℕ → Type 0
TellsItem encoding items i told = ((told ≡ None) ↔ (length items ≤ i))
    × (length (list_encoding encoding items) < 2 ^ 32 → told ≡ option_map (λ item. length (encoding item)) (slice_get items i))
