-- Bodies operator by operator, over mapped references.
use Rattle.std.proofs.Common.{ℕ, ◌≡◌, ◌&&◌, List, [], ◌∷◌, map, Option, Some, None, refl}
use Rattle.std.specs.Option.{option_and_then, option_map, unwrap_or}
use Rattle.wasm_bodies.specs.BodyContext.{ModuleItems, BodyContext, written, func_at}
use Rattle.wasm_bodies.specs.Bodies.{Entered, entered}
use Rattle.wasm_bodies.specs.Effects.{effect}
use Rattle.wasm_bodies.specs.Operands.{State, taken}
use Rattle.wasm_bodies.specs.Operators.{BlockType, Empty, Value, Indexed, Operator, Block, Loop, If, Else, End}
use Rattle.wasm_bodies.specs.Signatures.{from_to}
use Rattle.wasm_bodies_laws.specs.Machine.{FrameKind, BlockFrame, LoopFrame, IfFrame, ElseFrame, Frame, Machine, frame_of, block_meant, frame_type, label_types, label_of, labels_of, opened_as, opened, begun, with_block, has_given, may_end, is_if, after_end, ended, turned, structural, is_structural, stepped_in, stepped, run}
use Rattle.wasm_bodies_laws.specs.References.{AgreeOn, AreWantedIn, IsBlockWanted, AreFramesWanted, Below, items_map, context_map, state_map, labels_map, entered_map, block_map, frame_map, machine_map}
use Rattle.wasm_bodies_laws.proofs.HeldOptions.{then_held}
use Rattle.wasm_bodies_laws.proofs.MappedBlocks.{entered_is, if_entered_is, exactly_is}
use Rattle.wasm_bodies_laws.proofs.MappedEffects.{effect_is}
use Rattle.wasm_bodies_laws.proofs.MappedOperands.{given_is, fresh_is}
use Rattle.wasm_bodies_laws.proofs.MappedOptions.{if_map, provided_map, map_map, then_map}
use Rattle.wasm_bodies_laws.proofs.MappedSignatures.{written_is, func_at_is}
use Rattle.wasm_bodies_laws.proofs.WantedFrames.{frame_wanted, labels_wanted, stepped_wanted}
use Rattle.wasm_spec.specs.TypeReferences.{val_map, func_map}
use Rattle.wasm_spec.specs.Types.{ValType, I32, FuncType}

-- ---- frames

module _ {R S : Type 0} (f : R → S) where
  or_none_is : (o : Option (FuncType R)) → unwrap_or (option_map (func_map f) o) (from_to [] []) ≡ func_map f (unwrap_or o (from_to [] []))
  or_none_is None = refl
  or_none_is (Some type) = refl

  label_types_is : (kind : FrameKind) (type : FuncType R) → label_types kind (func_map f type) ≡ map (val_map f) (label_types kind type)
  label_types_is BlockFrame type = refl
  label_types_is LoopFrame type = refl
  label_types_is IfFrame type = refl
  label_types_is ElseFrame type = refl

module _ {R S : Type 0} (f : R → S) (items : ModuleItems R) (below : Below S) where
  frame_type_is : (type : BlockType R) → frame_type (items_map f items below) (block_map f type) ≡ func_map f (frame_type items type)
  frame_type_is Empty = refl
  frame_type_is (Value type) = refl
  frame_type_is (Indexed index) = rw (func_at_is f items below index) (or_none_is f (func_at items index))

  label_of_is : (frame : Frame R) → label_of (items_map f items below) (frame_map f frame) ≡ map (val_map f) (label_of items frame)
  label_of_is frame = rw (frame_type_is frame.block_type) (label_types_is f frame.kind (frame_type items frame.block_type))

  labels_of_is : (frames : List (Frame R)) → labels_of (items_map f items below) (map (frame_map f) frames) ≡ labels_map f (labels_of items frames)
  labels_of_is [] = refl
  labels_of_is (frame ∷ frames) = rw (label_of_is frame, labels_of_is frames)

  begun_is : (frame : Frame R) → begun (items_map f items below) (frame_map f frame) ≡ state_map f (begun items frame)
  begun_is frame = rw (frame_type_is frame.block_type) (fresh_is f (frame_type items frame.block_type).params frame.below.assigned)

  after_end_is : (frame : Frame R) → after_end (items_map f items below) (frame_map f frame) ≡ state_map f (after_end items frame)
  after_end_is frame = rw (frame_type_is frame.block_type) (given_is f (frame_type items frame.block_type).results frame.below)

-- ---- steps

-- this list, with the same blocks open
abbrev on_frames : {R : Type 0} → List (Frame R) → State R → Machine R
on_frames frames s = record { now = s; frames = frames }

module _ {R S : Type 0} (f : R → S) (cx : BodyContext R) (below : Below S) where
  block_meant_is : (type : BlockType ℕ) → block_meant (context_map f cx below) type ≡ option_map (block_map f) (block_meant cx type)
  block_meant_is Empty = refl
  block_meant_is (Value type) =
      rw (written_is f cx.items below cx.features type) (map_map (val_map f) (block_map f) Value Value (λ t. refl) (written cx.features cx.items type))
  block_meant_is (Indexed index) =
      rw (func_at_is f cx.items below index) (map_map (func_map f) (block_map f) _ _ (λ type. refl) (func_at cx.items index))

  opens_is : (kind : FrameKind) (type : BlockType ℕ) (o : Option (Entered R)) → option_and_then (λ meant. option_map (opened_as kind meant) (option_map (entered_map f) o)) (block_meant (context_map f cx below) type) ≡ option_map (frame_map f) (option_and_then (λ meant. option_map (opened_as kind meant) o) (block_meant cx type))
  opens_is kind type o =
      rw (block_meant_is type)
      (then_map (block_map f) (frame_map f) _ _ (λ meant. map_map (entered_map f) (frame_map f) (opened_as kind meant) _ (λ b. refl) o) (block_meant cx type))

module _ {R S : Type 0} (Wanted : ValType R → Type 0) (f : R → S) (cx : BodyContext R) (below : Below S) (agree : AgreeOn Wanted f cx.items below) (wanted : AreWantedIn Wanted cx) where
  opened_is : (s : State R) (operator : Operator ℕ) → opened (context_map f cx below) (state_map f s) operator ≡ option_map (frame_map f) (opened cx s operator)
  opened_is s (Block type) = rw (entered_is Wanted f cx below agree wanted.items (Block type) type s) (opens_is f cx below BlockFrame type (entered cx (Block type) type s))
  opened_is s (Loop type) = rw (entered_is Wanted f cx below agree wanted.items (Loop type) type s) (opens_is f cx below LoopFrame type (entered cx (Loop type) type s))
  opened_is s (If type) =
      rw (if_entered_is Wanted f cx below agree wanted.items type s) (opens_is f cx below IfFrame type (option_and_then (entered cx (If type) type) (taken cx.items I32 s)))
  opened_is s _ = refl

  has_given_is : (frame : Frame R) → IsBlockWanted Wanted frame.block_type → (s : State R) → has_given (items_map f cx.items below) (frame_map f frame) (state_map f s) ≡ has_given cx.items frame s
  has_given_is frame one s =
      rw (frame_type_is f cx.items below frame.block_type)
      (exactly_is Wanted f cx below agree (frame_type cx.items frame.block_type).results (frame_wanted Wanted cx.features cx.items wanted.items frame.block_type one).1 s)

  may_end_is : (kind : FrameKind) (frame : Frame R) → IsBlockWanted Wanted frame.block_type → may_end (items_map f cx.items below) kind (frame_map f frame) ≡ may_end cx.items kind frame
  may_end_is IfFrame frame one = rw (begun_is f cx.items below frame) (has_given_is frame one (begun cx.items frame))
  may_end_is BlockFrame frame one = refl
  may_end_is LoopFrame frame one = refl
  may_end_is ElseFrame frame one = refl

  ended_is : (frame : Frame R) (frames : List (Frame R)) → IsBlockWanted Wanted frame.block_type → (s : State R) → ended (items_map f cx.items below) (frame_map f frame) (map (frame_map f) frames) (state_map f s) ≡ option_map (machine_map f) (ended cx.items frame frames s)
  ended_is frame frames one s =
      rw (has_given_is frame one s, may_end_is frame.kind frame one, after_end_is f cx.items below frame)
      (provided_map (machine_map f) (has_given cx.items frame s && may_end cx.items frame.kind frame) (Some (record { now = after_end cx.items frame; frames = frames })))

  turned_is : (frame : Frame R) (frames : List (Frame R)) → IsBlockWanted Wanted frame.block_type → (s : State R) → turned (items_map f cx.items below) (frame_map f frame) (map (frame_map f) frames) (state_map f s) ≡ option_map (machine_map f) (turned cx.items frame frames s)
  turned_is frame frames one s =
      rw (has_given_is frame one s, begun_is f cx.items below frame)
      (provided_map (machine_map f) (is_if frame.kind && has_given cx.items frame s) (Some (record { now = begun cx.items frame; frames = frame_of ElseFrame frame.block_type frame.below ∷ frames })))

  opening_is : (frame : Frame R) (frames : List (Frame R)) (s : State R) (operator : Operator ℕ) → option_map (with_block (items_map f cx.items below) (map (frame_map f) (frame ∷ frames))) (opened (context_map f cx below) (state_map f s) operator) ≡ option_map (machine_map f) (option_map (with_block cx.items (frame ∷ frames)) (opened cx s operator))
  opening_is frame frames s operator =
      rw (opened_is s operator)
      (map_map (frame_map f) (machine_map f) (with_block cx.items (frame ∷ frames)) _ (λ opened. rw (begun_is f cx.items below opened)) (opened cx s operator))

  structural_is : (frame : Frame R) (frames : List (Frame R)) → IsBlockWanted Wanted frame.block_type → (s : State R) (operator : Operator ℕ) → structural (context_map f cx below) (frame_map f frame) (map (frame_map f) frames) (state_map f s) operator ≡ option_map (machine_map f) (structural cx frame frames s operator)
  structural_is frame frames one s End = ended_is frame frames one s
  structural_is frame frames one s Else = turned_is frame frames one s
  structural_is frame frames one s operator = opening_is frame frames s operator

  plain_is : (frames : List (Frame R)) → AreFramesWanted Wanted frames → (s : State R) (operator : Operator ℕ) → option_map (λ m. on_frames (map (frame_map f) frames) m) (effect (context_map f cx below) (labels_of (items_map f cx.items below) (map (frame_map f) frames)) (state_map f s) operator) ≡ option_map (machine_map f) (option_map (λ m. on_frames frames m) (effect cx (labels_of cx.items frames) s operator))
  plain_is frames all s operator =
      rw (labels_of_is f cx.items below frames, effect_is Wanted f cx below agree wanted (labels_of cx.items frames) (labels_wanted Wanted cx.features cx.items wanted.items frames all) s operator)
      (map_map (state_map f) (machine_map f) _ _ (λ m. refl) (effect cx (labels_of cx.items frames) s operator))

  in_is : (frames : List (Frame R)) → AreFramesWanted Wanted frames → (s : State R) (operator : Operator ℕ) → stepped_in (context_map f cx below) (map (frame_map f) frames) (state_map f s) operator ≡ option_map (machine_map f) (stepped_in cx frames s operator)
  in_is [] all s operator = refl
  in_is (frame ∷ frames) all s operator =
      rw (structural_is frame frames all.0 s operator, plain_is (frame ∷ frames) all s operator)
      (if_map (option_map (machine_map f)) (is_structural operator) (structural cx frame frames s operator) (option_map (λ m. on_frames (frame ∷ frames) m) (effect cx (labels_of cx.items (frame ∷ frames)) s operator)))

  pub stepped_is : (m : Machine R) → AreFramesWanted Wanted m.frames → (operator : Operator ℕ) → stepped (context_map f cx below) (machine_map f m) operator ≡ option_map (machine_map f) (stepped cx m operator)
  stepped_is m all operator = in_is m.frames all m.now operator

  pub run_is : (operators : List (Operator ℕ)) (m : Machine R) → AreFramesWanted Wanted m.frames → run (context_map f cx below) operators (machine_map f m) ≡ option_map (machine_map f) (run cx operators m)
  run_is [] m all = refl
  run_is (operator ∷ operators) m all =
      rw (stepped_is m all operator)
      (then_held (λ n. AreFramesWanted Wanted n.frames) (machine_map f) (machine_map f) (run cx operators) _ (run_is operators) (stepped cx m operator) (stepped_wanted Wanted cx wanted.items m all operator))
