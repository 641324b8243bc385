-- The effects of calls on the stacks of a body. Each takes or gives operands at once, as operators do after they were tested.
use Rattle.std.specs.Prelude.{◌≡◌, ℕ, Bool, true, List, [], ◌∷◌, ◌++◌, drop, length, if◌then◌else◌}
use Rattle.wasm_bodies.specs.BodyContext.{ModuleItems, is_among}
use Rattle.wasm_bodies.specs.Operands.{Operand, State, fresh, given}
use Rattle.wasm_bodies.specs.Operators.{BlockType}
use Rattle.wasm_bodies_laws.specs.Machine.{FrameKind, ElseFrame, Frame, Machine, frame_of}
use Rattle.wasm_spec.specs.Types.{ValType}

-- without the last n known operands, or all of them where fewer are known
abbrev pub lowered : {R : Type 0} → ℕ → State R → State R
lowered n s = record s { known = drop n s.known }

-- with operands of these types in place of the last n
abbrev pub replaced_by : {R : Type 0} → ℕ → List (ValType R) → State R → State R
replaced_by n types s = given types (lowered n s)

-- each type is below itself
abbrev pub IsBelowItself : {R : Type 0} → ModuleItems R → Type 0
IsBelowItself {R} items = (type : ValType R) → items.is_below type type ≡ true

-- the local, which has no value at the start, is among the assigned ones
abbrev pub marked : {R : Type 0} → ℕ → State R → State R
marked index s = if is_among s.assigned index then s else record s { assigned = s.assigned ++ index ∷ [] }

-- with another list that is typed
abbrev pub at_list : {R : Type 0} → State R → Machine R → Machine R
at_list now m = record m { now = now }

-- A block is opened above all but the last n operands, and begins with operands of these types.
abbrev pub entered_by : {R : Type 0} → FrameKind → BlockType R → ℕ → List (ValType R) → Machine R → Machine R
entered_by kind type n params m = record { now = fresh params m.now.assigned; frames = frame_of kind type (lowered n m.now) ∷ m.frames }

-- The innermost block is closed, and gives operands of these types to the list around it.
abbrev pub left_from : {R : Type 0} → List (Frame R) → List (ValType R) → Machine R → Machine R
left_from [] results m = m
left_from (f ∷ frames) results m = record { now = given results f.below; frames = frames }

abbrev pub left_with : {R : Type 0} → List (ValType R) → Machine R → Machine R
left_with results m = left_from m.frames results m

-- The second list of the innermost block begins, with operands of these types.
abbrev pub else_from : {R : Type 0} → List (Frame R) → List (ValType R) → Machine R → Machine R
else_from [] params m = m
else_from (f ∷ frames) params m =
    record { now = fresh params f.below.assigned; frames = frame_of ElseFrame f.block_type f.below ∷ frames }

abbrev pub else_with : {R : Type 0} → List (ValType R) → Machine R → Machine R
else_with params m = else_from m.frames params m

-- ---- what getters tell

-- the known operands of the lists around the blocks, and of all lists, the last one first
abbrev pub known_below : {R : Type 0} → List (Frame R) → List (Operand R)
known_below [] = []
known_below (f ∷ frames) = f.below.known ++ known_below frames

abbrev pub all_known : {R : Type 0} → Machine R → List (Operand R)
all_known m = m.now.known ++ known_below m.frames

-- of each open block, the innermost first, how many operands are known below its list, and whether its list is open
abbrev pub places_from : {R : Type 0} → Bool → List (Frame R) → List (ℕ × Bool)
places_from is_open [] = []
places_from is_open (f ∷ frames) = (length (f.below.known ++ known_below frames), is_open) ∷ places_from f.below.is_open frames

abbrev pub places_of : {R : Type 0} → Machine R → List (ℕ × Bool)
places_of m = places_from m.now.is_open m.frames
