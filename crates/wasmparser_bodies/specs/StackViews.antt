-- How a caller sees the operands, the open blocks and the assigned locals of a body.
use Rattle.std.specs.Prelude.{◌≡◌, ◌<◌, ◌≤◌, ℕ, Bool, false, List, [], ◌∷◌, drop, length, map, reverse, slice_index, take}
use Rattle.wasm_bodies.specs.Operands as operands
use Rattle.wasm_bodies.specs.Operators as operators
use Rattle.wasm_bodies_laws.specs.Machine as machine
use Rattle.wasmparser_types.specs.Index.{Index}
use Rattle.wasmparser_types.specs.ValTypes.{val_type}
use Rattle.wasmparser_types.specs.declared.val_type.ValType.{ValType}
use Rattle.wasmparser_operators.specs.declared.immediates.BlockType.{BlockType}
use Rattle.wasmparser_operators.specs.declared.immediates.BlockType.TheVariants as blocks
use Rattle.wasmparser_bodies.specs.declared.frame.Frame.{Frame}
use Rattle.wasmparser_bodies.specs.declared.frame.FrameKind.{FrameKind}
use Rattle.wasmparser_bodies.specs.declared.frame.FrameKind.TheVariants as kinds
use Rattle.wasmparser_bodies.specs.declared.operand.Operand.{Operand}
use Rattle.wasmparser_bodies.specs.declared.operand.Operand.TheVariants.{Known, Unknown, UnknownRef}
use Rattle.wasmparser_bodies.specs.declared.stacks.Stacks.TheInside.{Inside}

-- ---- parts

abbrev pub operand : Operand → operands.Operand Index
operand (Known type) = operands.Known (val_type type)
operand Unknown = operands.Unknown
operand UnknownRef = operands.UnknownRef

-- operands of these types
abbrev pub all_of : List ValType → List (operands.Operand Index)
all_of types = map (λ type. operands.Known type) (map val_type types)

abbrev pub frame_kind : FrameKind → machine.FrameKind
frame_kind kinds.Block = machine.BlockFrame
frame_kind kinds.Loop = machine.LoopFrame
frame_kind kinds.If = machine.IfFrame
frame_kind kinds.Else = machine.ElseFrame

-- a block type whose value type has ids
abbrev pub block_with_ids : BlockType → operators.BlockType Index
block_with_ids blocks.Empty = operators.Empty
block_with_ids (blocks.Type type) = operators.Value (val_type type)
block_with_ids (blocks.FuncType index) = operators.Indexed index

-- what a getter tells of an open block: its kind and type, and how many operands are known below its list and whether that is open
abbrev pub block_kept : Frame → machine.FrameKind × operators.BlockType Index
block_kept f = (frame_kind f.kind, block_with_ids f.block_type)

abbrev pub block_seen : machine.Frame Index → machine.FrameKind × operators.BlockType Index
block_seen f = (f.kind, f.block_type)

abbrev pub place_kept : Frame → ℕ × Bool
place_kept f = (f.height, f.unreachable)

-- ---- the whole

-- The blocks have the innermost one first, and the operands the last one last. How many operands are below the innermost list, and whether it is
-- open.
abbrev pub base_of : List Frame → ℕ
base_of [] = 0
base_of (f ∷ frames) = f.height

abbrev pub is_open_of : List Frame → Bool
is_open_of [] = false
is_open_of (f ∷ frames) = f.unreachable

abbrev pub state_of : List Frame → List (operands.Operand Index) → List ℕ → operands.State Index
state_of frames all assigned = record { known = reverse (drop (base_of frames) all); is_open = is_open_of frames; assigned = assigned }

abbrev pub frames_of : List Frame → List (operands.Operand Index) → List ℕ → List (machine.Frame Index)
frames_of [] all assigned = []
frames_of (f ∷ frames) all assigned =
    machine.frame_of (frame_kind f.kind) (block_with_ids f.block_type) (state_of frames (take f.height all) (take f.init_height assigned))
    ∷ frames_of frames (take f.height all) (take f.init_height assigned)

abbrev pub view_of : List Frame → List (operands.Operand Index) → List ℕ → machine.Machine Index
view_of frames all assigned = record { now = state_of frames all assigned; frames = frames_of frames all assigned }

abbrev pub machine_of : Inside → machine.Machine Index
machine_of s = view_of (reverse s.frames.items) (map operand s.operands.items) s.assigned.items

-- ---- what is so of all

-- each block starts within what stands before it
abbrev pub AreWithin : List Frame → ℕ → ℕ → Type 0
AreWithin [] n k = Unit {0}
AreWithin (f ∷ frames) n k = (f.height ≤ n) × (f.init_height ≤ k) × AreWithin frames f.height f.init_height

-- the place that is kept for each assigned local is where it stands
abbrev pub ArePlaced : List ℕ → List ℕ → Type 0
ArePlaced assigned places = (j : ℕ) → j < length assigned → slice_index places (slice_index assigned j) ≡ j

pub record IsWithin (s : Inside) : Type 0 where
  pub heights : AreWithin (reverse s.frames.items) (length s.operands.items) (length s.assigned.items)
  pub places : ArePlaced s.assigned.items s.places.items
