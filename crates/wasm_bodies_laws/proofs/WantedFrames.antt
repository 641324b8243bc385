-- Which types open blocks want: labels take them, and blocks end with them. What is opened wants no others.
use Rattle.std.proofs.Common.{ℕ, Bool, true, false, ◌&&◌, List, [], ◌∷◌, Option, Some, None, if◌then◌else◌}
use Rattle.std.specs.Option.{IfSome, option_and_then, option_map, unwrap_or}
use Rattle.wasm_bodies.specs.BodyContext.{ModuleItems, BodyContext, written, func_at}
use Rattle.wasm_bodies.specs.Bodies.{Entered, entered}
use Rattle.wasm_bodies.specs.Effects.{effect}
use Rattle.wasm_bodies.specs.Operands.{State, taken}
use Rattle.wasm_bodies.specs.Operators.{BlockType, Empty, Value, Indexed, Operator, Block, Loop, If, Else, End}
use Rattle.wasm_bodies.specs.Signatures.{from_to}
use Rattle.wasm_bodies_laws.specs.Machine.{FrameKind, BlockFrame, LoopFrame, IfFrame, ElseFrame, Frame, Machine, frame_of, block_meant, frame_type, label_types, labels_of, opened_as, opened, begun, with_block, has_given, may_end, is_if, after_end, structural, is_structural, stepped_in, stepped, run}
use Rattle.wasm_bodies_laws.specs.References.{AreAllWanted, TakesAndGives, AreWanted, AreLabelsWanted, IsBlockWanted, AreFramesWanted}
use Rattle.wasm_bodies_laws.proofs.HeldOptions.{held_map, held_then, held_by_all, held_provided}
use Rattle.wasm_bodies_laws.proofs.WantedTypes.{written_wanted, func_wanted}
use Rattle.wasm_spec.specs.Features.{Features}
use Rattle.wasm_spec.specs.Types.{ValType, I32, FuncType}

held_if : {A : Type 0} (P : A → Type 0) (condition : Bool) (a b : Option A) → IfSome a P → IfSome b P → IfSome (if condition then a else b) P
held_if P true a b first second = first
held_if P false a b first second = second

-- ---- what frames stand for

module _ {R : Type 0} (Wanted : ValType R → Type 0) where
  or_none_wanted : (o : Option (FuncType R)) → IfSome o (TakesAndGives Wanted) → TakesAndGives Wanted (unwrap_or o (from_to [] []))
  or_none_wanted None both = (tt, tt)
  or_none_wanted (Some type) both = both

  label_types_wanted : (kind : FrameKind) (type : FuncType R) → TakesAndGives Wanted type → AreAllWanted Wanted (label_types kind type)
  label_types_wanted BlockFrame type both = both.1
  label_types_wanted LoopFrame type both = both.0
  label_types_wanted IfFrame type both = both.1
  label_types_wanted ElseFrame type both = both.1

module _ {R : Type 0} (Wanted : ValType R → Type 0) (features : Features) (items : ModuleItems R) (wanted : AreWanted Wanted features items) where
  pub frame_wanted : (type : BlockType R) → IsBlockWanted Wanted type → TakesAndGives Wanted (frame_type items type)
  frame_wanted Empty one = (tt, tt)
  frame_wanted (Value type) one = (tt, (one, tt))
  frame_wanted (Indexed index) one = or_none_wanted Wanted (func_at items index) (func_wanted Wanted features items wanted index)

  pub labels_wanted : (frames : List (Frame R)) → AreFramesWanted Wanted frames → AreLabelsWanted Wanted (labels_of items frames)
  labels_wanted [] all = tt
  labels_wanted (frame ∷ frames) all =
      (label_types_wanted Wanted frame.kind (frame_type items frame.block_type) (frame_wanted frame.block_type all.0), labels_wanted frames all.1)

-- ---- steps

module _ {R : Type 0} (Wanted : ValType R → Type 0) (cx : BodyContext R) (wanted : AreWanted Wanted cx.features cx.items) where
  block_meant_wanted : (type : BlockType ℕ) → IfSome (block_meant cx type) (IsBlockWanted Wanted)
  block_meant_wanted Empty = tt
  block_meant_wanted (Value type) =
      held_map Wanted (IsBlockWanted Wanted) Value (λ t one. one) (written cx.features cx.items type) (written_wanted Wanted cx.features cx.items wanted type)
  block_meant_wanted (Indexed index) = held_by_all (IsBlockWanted Wanted) (λ type. Indexed index) (λ type. tt) (func_at cx.items index)

  opens_wanted : (kind : FrameKind) (type : BlockType ℕ) (o : Option (Entered R)) → IfSome (option_and_then (λ meant. option_map (opened_as kind meant) o) (block_meant cx type)) (λ frame. IsBlockWanted Wanted frame.block_type)
  opens_wanted kind type o =
      held_then (IsBlockWanted Wanted) (λ frame. IsBlockWanted Wanted frame.block_type) (λ meant. option_map (opened_as kind meant) o)
      (λ meant one. held_by_all (λ frame. IsBlockWanted Wanted frame.block_type) (opened_as kind meant) (λ b. one) o)
      (block_meant cx type) (block_meant_wanted type)

  opened_wanted : (s : State R) (operator : Operator ℕ) → IfSome (opened cx s operator) (λ frame. IsBlockWanted Wanted frame.block_type)
  opened_wanted s (Block type) = opens_wanted BlockFrame type (entered cx (Block type) type s)
  opened_wanted s (Loop type) = opens_wanted LoopFrame type (entered cx (Loop type) type s)
  opened_wanted s (If type) = opens_wanted IfFrame type (option_and_then (entered cx (If type) type) (taken cx.items I32 s))
  opened_wanted s _ = tt

  structural_wanted : (frame : Frame R) (frames : List (Frame R)) → AreFramesWanted Wanted (frame ∷ frames) → (s : State R) (operator : Operator ℕ) → IfSome (structural cx frame frames s operator) (λ m. AreFramesWanted Wanted m.frames)
  structural_wanted frame frames all s End =
      held_provided (λ m. AreFramesWanted Wanted m.frames) (has_given cx.items frame s && may_end cx.items frame.kind frame)
      (Some (record { now = after_end cx.items frame; frames = frames })) (λ on. all.1)
  structural_wanted frame frames all s Else =
      held_provided (λ m. AreFramesWanted Wanted m.frames) (is_if frame.kind && has_given cx.items frame s)
      (Some (record { now = begun cx.items frame; frames = frame_of ElseFrame frame.block_type frame.below ∷ frames })) (λ on. (all.0, all.1))
  structural_wanted frame frames all s operator =
      held_map (λ opened. IsBlockWanted Wanted opened.block_type) (λ m. AreFramesWanted Wanted m.frames) (with_block cx.items (frame ∷ frames)) (λ opened one. (one, all))
      (opened cx s operator) (opened_wanted s operator)

  in_wanted : (frames : List (Frame R)) → AreFramesWanted Wanted frames → (s : State R) (operator : Operator ℕ) → IfSome (stepped_in cx frames s operator) (λ m. AreFramesWanted Wanted m.frames)
  in_wanted [] all s operator = tt
  in_wanted (frame ∷ frames) all s operator =
      held_if (λ m. AreFramesWanted Wanted m.frames) (is_structural operator) (structural cx frame frames s operator) _ (structural_wanted frame frames all s operator)
      (held_by_all (λ m. AreFramesWanted Wanted m.frames) _ (λ m. all) (effect cx (labels_of cx.items (frame ∷ frames)) s operator))

  pub stepped_wanted : (m : Machine R) → AreFramesWanted Wanted m.frames → (operator : Operator ℕ) → IfSome (stepped cx m operator) (λ n. AreFramesWanted Wanted n.frames)
  stepped_wanted m all operator = in_wanted m.frames all m.now operator

  -- whatever steps lead to
  pub run_wanted : (operators : List (Operator ℕ)) (m : Machine R) → AreFramesWanted Wanted m.frames → IfSome (run cx operators m) (λ n. AreFramesWanted Wanted n.frames)
  run_wanted [] m all = all
  run_wanted (operator ∷ operators) m all =
      held_then (λ n. AreFramesWanted Wanted n.frames) (λ n. AreFramesWanted Wanted n.frames) (run cx operators) (run_wanted operators) (stepped cx m operator) (stepped_wanted m all operator)
