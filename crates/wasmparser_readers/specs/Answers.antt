-- What readers of items answer.
use Rattle.std.specs.Prelude.{◌≡◌, ℕ, ◌≤◌, List, Option, Some, None, Result, Ok, Err}
use Rattle.std.specs.List.{Any}
use Rattle.wasm_core_read.specs.Input.{Input, GoesOn, IsWithin}
use Rattle.wasmparser_error.specs.Error.{IsRefusal}
use Rattle.wasmparser_error.specs.declared.error.Error.{Error}
use Rattle.wasmparser_error.specs.declared.error.ErrorKind.{ErrorKind}
use Rattle.wasmparser_error.specs.declared.error.ErrorKind.TheVariants.{Invalid, Memory}
use Rattle.wasmparser_types.specs.Index.{packable}

-- an item reads that names a type index which is too large to be packed
abbrev pub HasLargeIndex : {A : Type 0} → (A → List ℕ) → Option (A × List ℕ) → Type 0
HasLargeIndex indexes None = ⊥
HasLargeIndex indexes (Some read) = Any (λ index. packable ≤ index) (indexes read.0)

-- what a reader of an item refuses: bytes that read as an item with an index too large, bytes that don't read, or memory ran out for an item that takes some
abbrev pub IsItemRefusal : ErrorKind → ℕ → Type 0 → Type 0 → Type 0 → Type 0
IsItemRefusal Invalid offset takes_memory unread large = large
IsItemRefusal Memory offset takes_memory unread large = takes_memory
IsItemRefusal kind offset takes_memory unread large = IsRefusal kind offset unread

-- What a call returned is what reading gives, unless memory runs out. A refusal leaves the reader somewhere between where it was and its end.
abbrev pub AnswersOrFills : {X A : Type 0} → (X → A) → Input → Input → Result X Error → Option (A × List ℕ) → Type 0
AnswersOrFills view old new (Ok x) read = (read ≡ Some (view x, new.rest)) × GoesOn old new
AnswersOrFills view old new (Err e) read = IsRefusal e.kind e.offset ((read ≡ None) × IsWithin old e.offset) × GoesOn old new

-- The same of an item that may name types, each of which is named by its place in the module.
abbrev pub ReadsItem : {X A : Type 0} → (X → A) → (X → Type 0) → Type 0 → (A → List ℕ) → Input → Input → Result X Error → Option (A × List ℕ) → Type 0
ReadsItem form IsOfModule TakesMemory indexes old new (Ok x) read = (read ≡ Some (form x, new.rest)) × IsOfModule x × GoesOn old new
ReadsItem form IsOfModule TakesMemory indexes old new (Err e) read =
    IsItemRefusal e.kind e.offset (TakesMemory × (e.offset ≡ old.position)) ((read ≡ None) × IsWithin old e.offset) (HasLargeIndex indexes read × (e.offset ≡ old.position)) × GoesOn old new
