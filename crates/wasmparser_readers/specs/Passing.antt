-- Passing over what is read later.
use Rattle.std.specs.Prelude.{◌≡◌, ◌≤◌, ◌-◌, ℕ, List, length, take, Option, Some, None, Result, Ok, Err}
use Rattle.wasm_core_read.specs.Input.{Input, GoesOn, IsWithin, end}
use Rattle.wasm_core_read.specs.declared.malformed.Malformed.{Malformed}

-- what is left after what is read
abbrev pub rest_of : {A : Type 0} → Option (A × List ℕ) → Option (List ℕ)
rest_of None = None
rest_of (Some read) = Some read.1

-- What a call returned that passes over what is read. A refusal leaves the reader somewhere between where it was and its end.
abbrev pub Passes : {A T : Type 0} → Input → Input → Result T Malformed → Option (A × List ℕ) → Type 0
Passes old new (Ok u) read = (rest_of read ≡ Some new.rest) × GoesOn old new
Passes old new (Err e) read = (read ≡ None) × GoesOn old new × IsWithin old e.offset

-- what was passed since a reader stood here, of which so many bytes are left
abbrev pub passed : Input → ℕ → Input
passed i left = record i { rest = take (length i.rest - left) i.rest }

-- what some bytes read as, or else this
abbrev pub read_or : {A : Type 0} → A → Option (A × List ℕ) → A
read_or default None = default
read_or default (Some read) = read.0

-- a part of an input that a reader has passed: it has the reader's features, and lies between where the reader was and where it is
pub record IsPart (old new part : Input) : Type 0 where
  pub from : old.position ≤ part.position
  pub to : end part ≤ new.position
  pub same_features : part.features ≡ old.features

-- the part that it passed last
abbrev pub IsLastPart : Input → Input → Input → Type 0
IsLastPart old new part = IsPart old new part × (end part ≡ new.position)
