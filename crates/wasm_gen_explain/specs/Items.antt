-- In which of several items a place is.
use Rattle.std.specs.Prelude.{◌≡◌, ◌≤◌, ◌<◌, ◌⊎◌, ℕ, ◌-◌, List, length, Option, Some, None}
use Rattle.wasm_core_read.specs.Input.{Input, GoesOn, end}
use Rattle.wasm_core_read.specs.Reading.{ReadingOf}
use Rattle.wasm_spec.specs.Features.{Features}
use Rattle.wasmparser_readers.specs.Answers.{HasLargeIndex}
use Rattle.wasmparser_readers.specs.Passing.{rest_of}
use Rattle.wasm_gen_explain.specs.Passed.{ArePassed}

-- something reads that ends past a place, where this is the end of the input
abbrev pub EndsPast : {A : Type 0} → ℕ → ℕ → Option (A × List ℕ) → Type 0
EndsPast last offset None = ⊥
EndsPast last offset (Some read) = offset < last - length read.1

-- the next item reads and ends at a place or before it, and this is left
pub record PassesItem {A : Type 0} (item_at : Features → ReadingOf A) (offset : ℕ) (old new : Input) : Type 0 where
  pub reads : rest_of (item_at old.features old.rest) ≡ Some new.rest
  pub goes_on : GoesOn old new
  pub ends : new.position ≤ offset

-- The item that reads ends past a place, or has a type index that is too large to be packed, or none reads.
abbrev pub Stops : {A : Type 0} → (A → List ℕ) → Input → ℕ → Option (A × List ℕ) → Type 0
Stops indexes now offset read = (read ≡ None) ⊎ HasLargeIndex indexes read ⊎ EndsPast (end now) offset read

-- After so many items, which end at a place or before it, the next one ends past it, or is refused.
pub record IsItemAt {A : Type 0} (item_at : Features → ReadingOf A) (indexes : A → List ℕ) (count : ℕ) (items : Input) (offset number : ℕ) : Type 0 where
  pub now : Input
  pub among : number < count
  pub passed : ArePassed (PassesItem item_at offset) items number now
  pub stops : Stops indexes now offset (item_at now.features now.rest)
