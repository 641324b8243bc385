-- The results of calls that look for a place.
use Rattle.std.specs.Prelude.{◌≡◌, ◌<◌, ◌≤◌, ⊤, ℕ, ◌+◌, ◌-◌, ◌==◌, Bool, true, false, List, Option, Some, None, Result, Ok, Err, if◌then◌else◌, slice_get}
use Rattle.wasm_bodies.specs.Operators.{Operator}
use Rattle.wasm_core_read.specs.Input.{Input, GoesOn, end}
use Rattle.wasm_core_read.specs.PartReading.{body_at}
use Rattle.wasm_core_read.specs.Reading.{ReadingOf}
use Rattle.wasm_spec.specs.Features.{Features}
use Rattle.wasmparser_operators.specs.OperatorReading.{operator_at}
use Rattle.wasm_gen_explain.specs.Bodies.{IsAtBody, IsBefore, IsInBody, IsInCode, IsInOneOf, PassesBody}
use Rattle.wasm_gen_explain.specs.Items.{IsItemAt, PassesItem, Stops}
use Rattle.wasm_gen_explain.specs.Lists.{BeginsList, EndsList, StopsCount}
use Rattle.wasm_gen_explain.specs.Operators.{BodyLeft, EndsBody, IsUnpassed, PassesOperator, StopsOperator, open_after, whole_body}
use Rattle.wasm_gen_explain.specs.Passed.{ArePassed}
use Rattle.wasm_gen_explain.specs.Sections.{EndsContent, IsAtSection, IsInContent, PassesSection}
use Rattle.wasm_gen_explain.specs.declared.place.Place.{Place}

-- ---- items

-- An item is passed, or stops at a place.
abbrev pub TriesItem : {A E : Type 0} → (Features → ReadingOf A) → (A → List ℕ) → Input → Input → ℕ → Result Bool E → Type 0
TriesItem item_at indexes old new offset (Ok true) = PassesItem item_at offset old new
TriesItem item_at indexes old new offset (Ok false) = Stops indexes old offset (item_at old.features old.rest)
TriesItem item_at indexes old new offset (Err e) = ⊤

-- The number of the item in which a place is, or none where so many are passed.
abbrev pub FindsItem : {A E : Type 0} → (Features → ReadingOf A) → (A → List ℕ) → ℕ → Input → Input → ℕ → Result (Option ℕ) E → Type 0
FindsItem item_at indexes count old new offset (Ok (Some number)) = IsItemAt item_at indexes count old offset number
FindsItem item_at indexes count old new offset (Ok None) = ArePassed (PassesItem item_at offset) old count new
FindsItem item_at indexes count old new offset (Err e) = ⊤

-- The number of items, if it ends at a place or before it.
abbrev pub ReadsCount : Input → Input → ℕ → Option ℕ → Type 0
ReadsCount old new offset (Some count) = BeginsList old offset count new
ReadsCount old new offset None = StopsCount old offset

-- ---- operators

-- how many blocks are open after an operator that begins with this byte, where so many were open before it
abbrev pub open_from : Option ℕ → ℕ → ℕ
open_from None blocks = blocks
open_from (Some b) blocks = if b == 0x02 then blocks + 1 else if b == 0x03 then blocks + 1 else if b == 0x04 then blocks + 1 else if b == 0x0b then blocks - 1 else blocks

-- an operator is read, and its first byte says which blocks are open after it
pub record ReadsOperator (old new : Input) : Type 0 where
  pub operator : Operator ℕ
  pub reads : operator_at old.features old.rest ≡ Some (operator, new.rest)
  pub goes_on : GoesOn old new
  pub further : old.position < new.position
  pub opens : (blocks : ℕ) → open_from (slice_get old.rest 0) blocks ≡ open_after operator blocks

-- An operator is passed, or stops at a place and is left unread.
abbrev pub TriesOperator : Input → Input → ℕ → Bool → Type 0
TriesOperator old new offset true = ReadsOperator old new × (new.position ≤ offset)
TriesOperator old new offset false = IsUnpassed offset old × (new ≡ old)

-- operators are passed up to one that stops at a place
pub record StopsAt (old new : Input) (offset number : ℕ) : Type 0 where
  pub now : BodyLeft
  pub passed : ArePassed (PassesOperator offset) (whole_body old) number now
  pub stops : StopsOperator offset now
  pub left : now.input ≡ new

-- all operators of a body are passed
pub record PassesAll (old : Input) (offset : ℕ) : Type 0 where
  pub number : ℕ
  pub now : BodyLeft
  pub passed : ArePassed (PassesOperator offset) (whole_body old) number now
  pub ends : EndsBody now

-- The number of the operator in which a place is, or none where all of the body is passed.
abbrev pub FindsOperator : Input → Input → ℕ → Option ℕ → Type 0
FindsOperator old new offset (Some number) = StopsAt old new offset number
FindsOperator old new offset None = PassesAll old offset

-- ---- bodies

-- A size is read and so many bytes, as a reader of these.
abbrev pub ReadsSized : {E : Type 0} → Input → Input → Result Input E → Type 0
ReadsSized old new (Ok part) = (body_at old.rest ≡ Some (part.rest, new.rest)) × GoesOn old new × (part.features ≡ old.features) × (end part ≡ new.position) × (old.position ≤ part.position)
ReadsSized old new (Err e) = body_at old.rest ≡ None

-- The place in a body, or none where all of it is before the place.
abbrev pub FindsInBody : ℕ → Input → ℕ → Option Place → Type 0
FindsInBody function body offset (Some place) = IsInBody function body offset place
FindsInBody function body offset None = IsBefore body offset

-- The place in the next body, or none where it is passed.
abbrev pub FindsAtBody : ℕ → Input → Input → ℕ → Option Place → Type 0
FindsAtBody function old new offset (Some place) = IsAtBody function old offset place
FindsAtBody function old new offset None = PassesBody offset old new

-- The place in so many bodies, or none where they are passed.
abbrev pub FindsInBodies : ℕ → ℕ → Input → Input → ℕ → Option Place → Type 0
FindsInBodies imported count old new offset (Some place) = IsInOneOf imported count old offset place
FindsInBodies imported count old new offset None = ArePassed (PassesBody offset) old count new

-- The place in a code section, or none where all of it is before the place.
abbrev pub FindsInCode : ℕ → Input → ℕ → Option Place → Type 0
FindsInCode imported content offset (Some place) = IsInCode imported content offset place
FindsInCode imported content offset None = EndsList (PassesBody offset) content offset

-- ---- sections

-- The place in the content of a section of this id, or none where all of it is before the place.
abbrev pub FindsInContent : ℕ → Input → ℕ → ℕ → Option Place → Type 0
FindsInContent imported content offset id (Some place) = IsInContent imported content offset id place
FindsInContent imported content offset id None = EndsContent content offset id

-- The place in the next section, or none where it is passed.
abbrev pub FindsAtSection : ℕ → Input → Input → ℕ → Option Place → Type 0
FindsAtSection imported old new offset (Some place) = IsAtSection imported old offset place
FindsAtSection imported old new offset None = PassesSection offset old new
