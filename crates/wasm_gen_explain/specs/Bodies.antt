-- Where in the body of a function a place is, and in which body of a code section.
use Rattle.std.specs.Prelude.{◌≡◌, ◌≤◌, ◌<◌, ◌⊎◌, ℕ, ◌+◌, ◌-◌, List, length, Some, None}
use Rattle.wasm_core_read.specs.Input.{Input, GoesOn, end}
use Rattle.wasm_core_read.specs.PartReading.{body_at}
use Rattle.wasm_core_read.specs.TypeReading.{list_at}
use Rattle.wasmparser_operators.specs.OperatorReading.{code_at}
use Rattle.wasmparser_payloads.specs.Locals.{run_at}
use Rattle.wasmparser_readers.specs.Passing.{rest_of}
use Rattle.wasm_gen_explain.specs.Items.{EndsPast}
use Rattle.wasm_gen_explain.specs.Lists.{BeginsList, HasMore, StopsCount}
use Rattle.wasm_gen_explain.specs.Operators.{BodyLeft, EndsBody, PassesOperator, StopsOperator, front_name, whole_body}
use Rattle.wasm_gen_explain.specs.Passed.{ArePassed}
use Rattle.wasm_gen_explain.specs.declared.place.Place.{Place}
use Rattle.wasm_gen_explain.specs.declared.place.Place.TheVariants as places

-- the locals of a body end past a place, or don't read
abbrev pub StopsLocals : Input → ℕ → Type 0
StopsLocals body offset = (list_at run_at body.rest ≡ None) ⊎ EndsPast (end body) offset (list_at run_at body.rest)

-- after the locals and so many operators of a body, which end at a place or before it, this is left
pub record IsPast (body : Input) (offset number : ℕ) (now : BodyLeft) : Type 0 where
  pub first : Input
  pub locals : rest_of (list_at run_at body.rest) ≡ Some first.rest
  pub goes_on : GoesOn body first
  pub begins : first.position ≤ offset
  pub operators : ArePassed (PassesOperator offset) (whole_body first) number now

-- the operator of this number and name ends past a place, or doesn't read, or is lacking
pub record IsOperatorAt (body : Input) (offset number : ℕ) (name : List ℕ) : Type 0 where
  pub now : BodyLeft
  pub past : IsPast body offset number now
  pub stops : StopsOperator offset now
  pub named : name ≡ front_name (code_at now.input.rest)

-- all of a body ends at a place or before it
pub record IsBefore (body : Input) (offset : ℕ) : Type 0 where
  pub number : ℕ
  pub now : BodyLeft
  pub past : IsPast body offset number now
  pub ends : EndsBody now

-- a place is in the body of this function
abbrev pub IsInBody : ℕ → Input → ℕ → Place → Type 0
IsInBody function body offset (places.Locals f) = (f ≡ function) × StopsLocals body offset
IsInBody function body offset (places.Operator f number name) = (f ≡ function) × IsOperatorAt body offset number name.now
IsInBody function body offset _ = ⊥

-- ---- code sections

-- the next body, with its size in front, and what follows it
pub record IsNextBody (old body : Input) (rest : List ℕ) : Type 0 where
  pub reads : body_at old.rest ≡ Some (body.rest, rest)
  pub same_features : body.features ≡ old.features
  pub ends : end body ≡ end old - length rest

-- the size of a body doesn't read, or says too much, or ends past a place
abbrev pub StopsSize : Input → ℕ → Type 0
StopsSize i offset = (body_at i.rest ≡ None) ⊎ ((body : Input) × (rest : List ℕ) × IsNextBody i body rest × (offset < body.position))

-- a place is within the next body, that of this function
pub record IsWithinBody (function : ℕ) (i : Input) (offset : ℕ) (place : Place) : Type 0 where
  pub body : Input
  pub rest : List ℕ
  pub is_next : IsNextBody i body rest
  pub begins : body.position ≤ offset
  pub ends : offset ≤ end body
  pub stands : IsInBody function body offset place

-- a place is in the next body, that of this function, or in its size
pub data IsAtBody (function : ℕ) (i : Input) (offset : ℕ) : Place → Type 0 where
  in_size : StopsSize i offset → IsAtBody function i offset (places.Function function)
  within : (place : Place) → IsWithinBody function i offset place → IsAtBody function i offset place

-- the next body ends before a place, or at it with nothing left unread
pub record PassesBody (offset : ℕ) (old new : Input) : Type 0 where
  pub body : Input
  pub is_next : IsNextBody old body new.rest
  pub goes_on : GoesOn old new
  pub ends : new.position ≤ offset
  pub whole : (new.position < offset) ⊎ IsBefore body offset

-- one of so many bodies is that in which a place is
pub record IsInOneOf (imported count : ℕ) (items : Input) (offset : ℕ) (place : Place) : Type 0 where
  pub number : ℕ
  pub now : Input
  pub among : number < count
  pub passed : ArePassed (PassesBody offset) items number now
  pub stands : IsAtBody (imported + number) now offset place

-- a place is in a body of a code section, whose functions come after so many others
pub record IsInBodies (imported : ℕ) (content : Input) (offset : ℕ) (place : Place) : Type 0 where
  pub count : ℕ
  pub items : Input
  pub begins : BeginsList content offset count items
  pub in_one : IsInOneOf imported count items offset place

-- a place is in a code section, where so many functions are imported
pub data IsInCode (imported : ℕ) (content : Input) (offset : ℕ) : Place → Type 0 where
  in_count : StopsCount content offset → IsInCode imported content offset (places.Section 10)
  after_bodies : HasMore (PassesBody offset) content offset → IsInCode imported content offset (places.Section 10)
  in_bodies : (place : Place) → IsInBodies imported content offset place → IsInCode imported content offset place
