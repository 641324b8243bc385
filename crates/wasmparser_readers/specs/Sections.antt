-- Sections of items: how many there are, and reading them one by one.
use Rattle.std.specs.Iterator.{Count, at_most}
use Rattle.std.specs.Prelude.{◌≡◌, ◌<◌, ◌⊎◌, ℕ, suc, ◌+◌, ◌-◌, length, List, [], Option, Some, None, Result, Ok, Err}
use Rattle.wasm_core_read.specs.Input.{Input, GoesOn, IsWithin, end}
use Rattle.wasm_core_read.specs.Reading.{◌>>=◌, ReadingOf, unsigned_at, filled}
use Rattle.wasm_core_read.specs.TypeReading.{items_at}
use Rattle.wasm_spec.specs.Features.{Features}
use Rattle.wasmparser_error.specs.declared.error.Error.{Error}
use Rattle.wasmparser_readers.specs.Answers.{IsItemRefusal, HasLargeIndex}

-- what is left of a section: so many items, which are to fill the rest of the input
pub record Left : Type 0 where
  pub count : ℕ
  pub input : Input

-- a section of items: where its content begins, and its items
pub record Limited : Type 0 where
  pub start : ℕ
  pub left : Left

-- the items of a content, whose number stands first
unfoldable pub limited_of : Input → Option Limited
limited_of i =
    unsigned_at 32 i.rest >>= λ n. Some (record { start = i.position; left = record { count = n.0; input = record i { rest = n.1; position = end i - length n.1 } } })

-- the items that are left, where they fill the input
unfoldable pub left_items : {A : Type 0} → (Features → ReadingOf A) → Left → Option (List A)
left_items form_at left = filled (items_at (form_at left.input.features) left.count left.input.rest)

-- nothing is left
pub record IsEmpty (left : Left) : Type 0 where
  pub none : left.count ≡ 0
  pub ended : left.input.rest ≡ []

-- an item was read, and the others are left
pub record IsNext {A : Type 0} (form_at : Features → ReadingOf A) (old new : Left) (offset : ℕ) (item : A) : Type 0 where
  pub counted : old.count ≡ suc new.count
  pub reads : form_at old.input.features old.input.rest ≡ Some (item, new.input.rest)
  pub place : offset ≡ old.input.position
  pub goes_on : GoesOn old.input new.input

-- the next item doesn't read, or bytes are left after the last one
abbrev pub IsUnread : {A : Type 0} → (Features → ReadingOf A) → Left → Type 0
IsUnread form_at left = ((0 < left.count) × (form_at left.input.features left.input.rest ≡ None)) ⊎ ((left.count ≡ 0) × (0 < length left.input.rest))

-- a refusal to read the next item
abbrev pub IsNextRefusal : {A : Type 0} → Type 0 → (A → List ℕ) → (Features → ReadingOf A) → Left → Error → Type 0
IsNextRefusal TakesMemory indexes form_at old e =
    IsItemRefusal e.kind e.offset (TakesMemory × (0 < old.count) × (e.offset ≡ old.input.position)) (IsUnread form_at old × IsWithin old.input e.offset)
    ((0 < old.count) × HasLargeIndex indexes (form_at old.input.features old.input.rest) × (e.offset ≡ old.input.position))

-- What a call returned that reads the next item: the item and its place, or none where nothing is left.
abbrev pub ReadsNextItem : {X A : Type 0} → (X → A) → (X → Type 0) → Type 0 → (A → List ℕ) → (Features → ReadingOf A) → Left → Left → Result (Option (ℕ × X)) Error → Type 0
ReadsNextItem form IsOfModule TakesMemory indexes form_at old new (Ok None) = IsEmpty old × (new ≡ old)
ReadsNextItem form IsOfModule TakesMemory indexes form_at old new (Ok (Some x)) = IsNext form_at old new x.0 (form x.1) × IsOfModule x.1
ReadsNextItem form IsOfModule TakesMemory indexes form_at old new (Err e) = IsNextRefusal TakesMemory indexes form_at old e

-- The same of an iterator. After a refusal nothing is left.
abbrev pub ReadsNext : {X A : Type 0} → (X → A) → (X → Type 0) → Type 0 → (A → List ℕ) → (Features → ReadingOf A) → Left → Left → Option (Result (ℕ × X) Error) → Type 0
ReadsNext form IsOfModule TakesMemory indexes form_at old new None = IsEmpty old × (new ≡ old)
ReadsNext form IsOfModule TakesMemory indexes form_at old new (Some (Ok x)) = IsNext form_at old new x.0 (form x.1) × IsOfModule x.1
ReadsNext form IsOfModule TakesMemory indexes form_at old new (Some (Err e)) = IsNextRefusal TakesMemory indexes form_at old e × IsEmpty new

-- The same of an iterator that doesn't tell places.
abbrev pub GivesNext : {X A : Type 0} → (X → A) → (X → Type 0) → Type 0 → (A → List ℕ) → (Features → ReadingOf A) → Left → Left → Option (Result X Error) → Type 0
GivesNext form IsOfModule TakesMemory indexes form_at old new None = IsEmpty old × (new ≡ old)
GivesNext form IsOfModule TakesMemory indexes form_at old new (Some (Ok x)) = IsNext form_at old new old.input.position (form x) × IsOfModule x
GivesNext form IsOfModule TakesMemory indexes form_at old new (Some (Err e)) = IsNextRefusal TakesMemory indexes form_at old e × IsEmpty new

-- no more results come than this
abbrev pub at_most_left : Left → Count
at_most_left left = at_most (left.count + length left.input.rest)
