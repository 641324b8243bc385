-- A body operator by operator: the list that is being typed, and the blocks that are open around it. Core Specification 3.0, appendix "Validation
-- Algorithm". That such steps are the judgement on trees is proved of them.
use Rattle.std.specs.Prelude.{◌≡◌, ◌≢◌, ℕ, Bool, true, false, ◌&&◌, List, [], ◌∷◌, map, Option, Some, None, option_map, unwrap_or, if◌then◌else◌}
use Rattle.std.specs.Option.{option_and_then}
use Rattle.wasm_bodies.specs.BodyContext.{ModuleItems, BodyContext, provided, written, func_at}
use Rattle.wasm_bodies.specs.Bodies.{Entered, entered, is_exactly}
use Rattle.wasm_bodies.specs.Effects.{Labels, effect}
use Rattle.wasm_bodies.specs.Operands.{State, taken, given, fresh}
use Rattle.wasm_bodies.specs.Operators.{BlockType, Empty, Value, Indexed, Operator, Block, Loop, If, Else, End}
use Rattle.wasm_bodies.specs.Signatures.{from_to, gives_one}
use Rattle.wasm_spec.specs.Types.{ValType, I32, FuncType}

-- what opened a block: the second list of an `if` is one of its own kind, and the body is as a block
pub data FrameKind : Type 0 where
  BlockFrame : FrameKind
  LoopFrame : FrameKind
  IfFrame : FrameKind
  ElseFrame : FrameKind

-- An open block: its kind, its type, of which a value type is meant as the context has it, and the list around it, below the operands that it took.
pub record Frame (R : Type 0) : Type 0 where
  pub kind : FrameKind
  pub block_type : BlockType R
  pub below : State R

-- the list that is being typed, and the open blocks, the innermost first, the body itself last
pub record Machine (R : Type 0) : Type 0 where
  pub now : State R
  pub frames : List (Frame R)

abbrev pub frame_of : {R : Type 0} → FrameKind → BlockType R → State R → Frame R
frame_of kind type below = record { kind = kind; block_type = type; below = below }

-- ---- block types

-- what a block type stands for that a body writes, if it stands for something
abbrev pub block_meant : {R : Type 0} → BodyContext R → BlockType ℕ → Option (BlockType R)
block_meant cx Empty = Some Empty
block_meant cx (Value type) = option_map Value (written cx.features cx.items type)
block_meant cx (Indexed index) = option_map (λ type. Indexed index) (func_at cx.items index)

-- what a block takes and gives (an index in a frame names a function type)
abbrev pub frame_type : {R : Type 0} → ModuleItems R → BlockType R → FuncType R
frame_type items Empty = from_to [] []
frame_type items (Value type) = gives_one type
frame_type items (Indexed index) = unwrap_or (func_at items index) (from_to [] [])

-- what a jump to a block takes: a loop is begun anew
abbrev pub label_types : {R : Type 0} → FrameKind → FuncType R → List (ValType R)
label_types LoopFrame type = type.params
label_types _ type = type.results

abbrev pub label_of : {R : Type 0} → ModuleItems R → Frame R → List (ValType R)
label_of items f = label_types f.kind (frame_type items f.block_type)

abbrev pub labels_of : {R : Type 0} → ModuleItems R → List (Frame R) → Labels R
labels_of items frames = map (label_of items) frames

-- ---- opening

abbrev pub opened_as : {R : Type 0} → FrameKind → BlockType R → Entered R → Frame R
opened_as kind type b = frame_of kind type b.below

-- the block that an operator opens, if it opens one and may
abbrev pub opened : {R : Type 0} → BodyContext R → State R → Operator ℕ → Option (Frame R)
opened cx s (Block type) = option_and_then (λ meant. option_map (opened_as BlockFrame meant) (entered cx (Block type) type s)) (block_meant cx type)
opened cx s (Loop type) = option_and_then (λ meant. option_map (opened_as LoopFrame meant) (entered cx (Loop type) type s)) (block_meant cx type)
opened cx s (If type) =
    option_and_then (λ meant. option_map (opened_as IfFrame meant) (option_and_then (entered cx (If type) type) (taken cx.items I32 s))) (block_meant cx type)
opened cx s operator = None

-- the list that an open block begins with, also a second time
abbrev pub begun : {R : Type 0} → ModuleItems R → Frame R → State R
begun items f = fresh (frame_type items f.block_type).params f.below.assigned

abbrev pub with_block : {R : Type 0} → ModuleItems R → List (Frame R) → Frame R → Machine R
with_block items frames f = record { now = begun items f; frames = f ∷ frames }

-- ---- closing

abbrev pub has_given : {R : Type 0} → ModuleItems R → Frame R → State R → Bool
has_given items f s = is_exactly items (frame_type items f.block_type).results s

-- an `if` may end without a second list where what it takes serves as what it gives
abbrev pub may_end : {R : Type 0} → ModuleItems R → FrameKind → Frame R → Bool
may_end items IfFrame f = has_given items f (begun items f)
may_end items _ f = true

abbrev pub is_if : FrameKind → Bool
is_if IfFrame = true
is_if _ = false

-- after the end of a block, the list around it
abbrev pub after_end : {R : Type 0} → ModuleItems R → Frame R → State R
after_end items f = given (frame_type items f.block_type).results f.below

-- what the end of the innermost block leads to, and what its second list begins with
abbrev pub ended : {R : Type 0} → ModuleItems R → Frame R → List (Frame R) → State R → Option (Machine R)
ended items f frames s = provided (has_given items f s && may_end items f.kind f) (Some (record { now = after_end items f; frames = frames }))

abbrev pub turned : {R : Type 0} → ModuleItems R → Frame R → List (Frame R) → State R → Option (Machine R)
turned items f frames s =
    provided (is_if f.kind && has_given items f s) (Some (record { now = begun items f; frames = frame_of ElseFrame f.block_type f.below ∷ frames }))

-- ---- steps

-- what an operator leads to that holds an inner list, parts two or ends one
abbrev pub structural : {R : Type 0} → BodyContext R → Frame R → List (Frame R) → State R → Operator ℕ → Option (Machine R)
structural cx f frames s End = ended cx.items f frames s
structural cx f frames s Else = turned cx.items f frames s
structural cx f frames s operator = option_map (with_block cx.items (f ∷ frames)) (opened cx s operator)

abbrev pub is_structural : {R : Type 0} → Operator R → Bool
is_structural (Block type) = true
is_structural (Loop type) = true
is_structural (If type) = true
is_structural Else = true
is_structural End = true
is_structural operator = false

-- after an operator, if it may come; after the body's end none may
abbrev pub stepped_in : {R : Type 0} → BodyContext R → List (Frame R) → State R → Operator ℕ → Option (Machine R)
stepped_in cx [] s operator = None
stepped_in cx (f ∷ frames) s operator =
    if is_structural operator then structural cx f frames s operator
    else option_map (λ m. record { now = m; frames = f ∷ frames }) (effect cx (labels_of cx.items (f ∷ frames)) s operator)

abbrev pub stepped : {R : Type 0} → BodyContext R → Machine R → Operator ℕ → Option (Machine R)
stepped cx m operator = stepped_in cx m.frames m.now operator

-- after operators, one after the other
abbrev pub run : {R : Type 0} → BodyContext R → List (Operator ℕ) → Machine R → Option (Machine R)
run cx [] m = Some m
run cx (operator ∷ operators) m = option_and_then (run cx operators) (stepped cx m operator)

-- The body of a function whose type has this index begins without operands, for its parameters are locals.
abbrev pub at_start : {R : Type 0} → ℕ → Machine R
at_start type = record { now = fresh [] []; frames = frame_of BlockFrame (Indexed type) (fresh [] []) ∷ [] }

-- ---- bodies

-- after these operators all is closed, the body too
abbrev pub IsClosedBy : {R : Type 0} → BodyContext R → ℕ → List (Operator ℕ) → Type 0
IsClosedBy {R} cx type operators = (m : Machine R) × (run cx operators (at_start type) ≡ Some m) × (m.frames ≡ [])

-- after these operators blocks are open, with these labels, the body itself at least
abbrev pub IsOpenAfter : {R : Type 0} → BodyContext R → ℕ → List (Operator ℕ) → Labels R → State R → Type 0
IsOpenAfter {R} cx type operators labels s =
    (m : Machine R) × (run cx operators (at_start type) ≡ Some m) × (m.frames ≢ []) × (labels ≡ labels_of cx.items m.frames) × (s ≡ m.now)
