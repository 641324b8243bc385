-- A body that is being validated.
use Rattle.std.specs.Prelude.{◌≡◌, ℕ, Bool, List, [], map, Option, Some, None, IsSome, Result, Ok, Err}
use Rattle.wasm_bodies.specs.Bodies.{parameter}
use Rattle.wasm_bodies.specs.BodyContext.{BodyContext, ModuleItems, Local}
use Rattle.wasm_bodies.specs.Operators.{Indexed, Operator}
use Rattle.wasm_bodies_laws.specs.Machine.{Machine, at_start, frame_type, stepped}
use Rattle.wasm_core_read.specs.Input.{Input, GoesOn, IsWithin}
use Rattle.wasm_spec.specs.Features.{Features}
use Rattle.wasmparser_error.specs.declared.error.Error.{Error}
use Rattle.wasmparser_error.specs.declared.error.ErrorKind.{ErrorKind}
use Rattle.wasmparser_error.specs.declared.error.ErrorKind.TheVariants as kinds
use Rattle.wasmparser_types.specs.Index.{Index}
use Rattle.wasmparser_bodies.specs.BodyAnswers.{HasManyTypes, NamesFault, context_of, left_at, with_code}
use Rattle.wasmparser_bodies.specs.CodeReading.{BodyOutcome, code_outcome}
use Rattle.wasmparser_bodies.specs.Fronts.{Passes, StopsInOperators, StopsIn}
use Rattle.wasmparser_bodies.specs.LocalsReading.{locals_outcome}

-- Its context, the type index of its function, the locals that were added, the machine that the operators led to, and whether others may come: after a
-- refusal none may.
pub record BodyState : Type 0 where
  pub features : Features
  pub items : ModuleItems Index
  pub index : ℕ
  pub locals : List (Local Index)
  pub machine : Machine Index
  pub is_ready : Bool

abbrev pub with_locals_in : List (Local Index) → BodyState → BodyState
with_locals_in locals state = record state { locals = locals }

abbrev pub with_machine_in : Machine Index → BodyState → BodyState
with_machine_in machine state = record state { machine = machine }

abbrev pub context_in : BodyState → BodyContext Index
context_in state = context_of state.features state.items (frame_type state.items (Indexed state.index)) state.locals

-- ---- bodies

-- nothing was added to what a body begins with: its locals are the parameters, and its own block alone is open
pub record IsAtStart (state : BodyState) : Type 0 where
  pub parameters : state.locals ≡ map parameter (frame_type state.items (Indexed state.index)).params
  pub begins : state.machine ≡ at_start state.index

-- locals and operators after those that were validated, up to the body's end
unfoldable pub rest_outcome : BodyState → List ℕ → BodyOutcome
rest_outcome state bytes =
    with_code (locals_outcome state.features state.items state.locals bytes) (λ locals rest. code_outcome (context_in (with_locals_in locals state)) state.machine rest)

-- memory may run out in these where so many bytes are left
abbrev pub StopsInRest : BodyState → List ℕ → ℕ → Type 0
StopsInRest state bytes left = StopsIn state.features state.items (frame_type state.items (Indexed state.index)) state.locals state.machine bytes left

-- all blocks have ended, and only locals were added
abbrev pub HasEnded : BodyState → BodyState → Type 0
HasEnded old new = (new.machine.frames ≡ []) × (new ≡ with_machine_in new.machine (with_locals_in new.locals old))

-- ---- operators

-- what is wrong at an operator: it leads nowhere, or memory ran out where it leads
abbrev pub IsRefusedStep : ErrorKind → ℕ → ℕ → Option (Machine Index) → Type 0
IsRefusedStep kinds.Body at offset wanted = (wanted ≡ None) × (at ≡ offset)
IsRefusedStep kinds.Memory at offset wanted = IsSome wanted × (at ≡ offset)
IsRefusedStep _ at offset wanted = ⊥

-- an operator leads where it leads
abbrev pub ValidatesOperator : ℕ → Operator ℕ → BodyState → BodyState → Result (Unit {0}) Error → Type 0
ValidatesOperator offset operator old new (Ok x) = (stepped (context_in old) old.machine operator ≡ Some new.machine) × (new ≡ with_machine_in new.machine old)
ValidatesOperator offset operator old new (Err e) = IsRefusedStep e.kind e.offset offset (stepped (context_in old) old.machine operator)

-- The result of a call that reads operators: they lead on, or one is refused.
abbrev pub ReadsStep : BodyState → BodyState → Input → Input → Result (Unit {0}) Error → Type 0
ReadsStep old new from to (Ok x) =
    Passes (context_in old) old.machine new.machine from.rest to.rest × (new ≡ with_machine_in new.machine old) × GoesOn from to
ReadsStep old new from to (Err e) =
    NamesFault (HasManyTypes old.items) (StopsInOperators (context_in old) old.machine from.rest (left_at from e.offset)) e.kind (code_outcome (context_in old) old.machine from.rest)
    × IsWithin from e.offset
