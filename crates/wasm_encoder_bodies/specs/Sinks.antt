-- What is promised of appending instructions.
use Rattle.std.specs.Prelude.{◌≡◌, ◌<◌, ◌≤◌, ◌+◌, ◌^◌, ◌++◌, ℕ, List, length}
use Rattle.wasm_core_write.specs.declared.encode_error.EncodeError.{EncodeError}
use Rattle.wasm_core_write.specs.declared.encode_error.EncodeError.TheVariants.{Memory, TooLong}

-- bytes, and how many there is room for
pub record SinkBytes : Type 0 where
  pub bytes : List ℕ
  pub capacity : ℕ

-- An encoding is appended. The capacity never shrinks.
abbrev pub Appends : SinkBytes → SinkBytes → List ℕ → Type 0
Appends old new encoding = (new.bytes ≡ old.bytes ++ encoding) × (length encoding < 2 ^ 32) × (old.capacity ≤ new.capacity)

-- A refusal is of an encoding that is too long, or of one for which room was missing.
abbrev pub Refuses : SinkBytes → List ℕ → EncodeError → Type 0
Refuses old encoding Memory = (length encoding < 2 ^ 32) × (old.capacity < length old.bytes + length encoding)
Refuses old encoding TooLong = 2 ^ 32 ≤ length encoding
