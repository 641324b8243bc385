-- Worked examples of bodies, operator by operator. They stand in the module of `BodyExamples`, whose types are named by their indexes.
use Rattle.std.specs.Prelude.{◌≡◌, ℕ, true, List, [], Some, None, unwrap_or}
use Rattle.wasm_bodies.specs.Bodies.{Run}
use Rattle.wasm_bodies.specs.BodyContext.{BodyContext, func_at}
use Rattle.wasm_bodies.specs.Operands.{State, fresh}
use Rattle.wasm_bodies.specs.Operators.{Indexed, Operator}
use Rattle.wasm_bodies.specs.Signatures.{from_to}
use Rattle.wasm_bodies_laws.specs.Machine.{BlockFrame, Frame, frame_of, at_start, run}
use Rattle.wasm_spec.specs.Features.{default_features}
use Rattle.wasm_spec_examples.specs.BodyExamples.{function_with, module_items}

-- a body of a function whose type has this index, with these locals after its parameters
abbrev pub in_body : ℕ → List Run → BodyContext ℕ
in_body type locals = function_with default_features (unwrap_or (func_at module_items type) (from_to [] [])) locals

-- the body itself, as what is open around all
abbrev pub body : ℕ → Frame ℕ
body type = frame_of BlockFrame (Indexed type) (fresh [] [])

-- with these locals, operators lead to a list in these blocks and the body
abbrev pub LeadsWith : List Run → ℕ → List (Operator ℕ) → State ℕ → List (Frame ℕ) → Type 0
LeadsWith locals type operators now frames = run (in_body type locals) operators (at_start type) ≡ Some (record { now = now; frames = frames })

abbrev pub Leads : ℕ → List (Operator ℕ) → State ℕ → List (Frame ℕ) → Type 0
Leads type operators now frames = LeadsWith [] type operators now frames

-- one of the operators may not come where it stands
abbrev pub StopsWith : List Run → ℕ → List (Operator ℕ) → Type 0
StopsWith locals type operators = run (in_body type locals) operators (at_start type) ≡ None

abbrev pub Stops : ℕ → List (Operator ℕ) → Type 0
Stops type operators = StopsWith [] type operators

-- an open list of which nothing is known
abbrev pub unknown : State ℕ
unknown = record { known = []; is_open = true; assigned = [] }
