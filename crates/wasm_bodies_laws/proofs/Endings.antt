-- Each machine has operators that close all its blocks: after `unreachable` a list ends with any types.
use Rattle.std.proofs.Common.{◌≡◌, true, ℕ, List, [], ◌∷◌, reverse, Some, refl, ap, ◌∙◌}
use Rattle.wasm_bodies.specs.BodyContext.{BodyContext}
use Rattle.wasm_bodies.specs.Bodies.{is_used_up, is_exactly}
use Rattle.wasm_bodies.specs.Operands.{State, each_taken, nothing_known}
use Rattle.wasm_bodies.specs.Operators.{BlockType, Operator, Unreachable, Else, End}
use Rattle.wasm_spec.specs.Types.{ValType}
use Rattle.wasm_bodies_laws.specs.Machine.{FrameKind, BlockFrame, LoopFrame, IfFrame, ElseFrame, Frame, frame_of, Machine, frame_type, begun, after_end, run}
use Rattle.wasm_bodies_laws.proofs.Runs.{at_list}

-- what closes a block, and then other operators
abbrev pub closed_by : FrameKind → List (Operator ℕ) → List (Operator ℕ)
closed_by IfFrame after = Unreachable ∷ Else ∷ Unreachable ∷ End ∷ after
closed_by _ after = Unreachable ∷ End ∷ after

pub some_close : (kind : FrameKind) (after : List (Operator ℕ)) → closed_by kind after ≡ [] → ⊥
some_close IfFrame after e = cc
some_close BlockFrame after e = cc
some_close LoopFrame after e = cc
some_close ElseFrame after e = cc

abbrev pub ending_of : {R : Type 0} → List (Frame R) → List (Operator ℕ)
ending_of [] = []
ending_of (f ∷ outer) = closed_by f.kind (ending_of outer)

module _ {R : Type 0} (cx : BodyContext R) where
  each_given : (types : List (ValType R)) (s : State R) → each_taken cx.items types (nothing_known s) ≡ Some (nothing_known s)
  each_given [] s = refl
  each_given (type ∷ types) s = each_given types s

  gives_any : (types : List (ValType R)) (s : State R) → is_exactly cx.items types (nothing_known s) ≡ true
  gives_any types s = ap is_used_up (each_given (reverse types) s)

  closes_one : (kind : FrameKind) (meant : BlockType R) (below s : State R) (outer : List (Frame R)) (after : List (Operator ℕ))
      → run cx (closed_by kind after) (at_list s (frame_of kind meant below ∷ outer)) ≡ run cx after (at_list (after_end cx.items (frame_of kind meant below)) outer)
  closes_one BlockFrame meant below s outer after = rw (gives_any (frame_type cx.items meant).results s) refl
  closes_one LoopFrame meant below s outer after = rw (gives_any (frame_type cx.items meant).results s) refl
  closes_one ElseFrame meant below s outer after = rw (gives_any (frame_type cx.items meant).results s) refl
  closes_one IfFrame meant below s outer after =
      rw (gives_any (frame_type cx.items meant).results s, gives_any (frame_type cx.items meant).results (begun cx.items (frame_of IfFrame meant below))) refl

  pub closes_all : (frames : List (Frame R)) (s : State R) → (n : Machine R) × (run cx (ending_of frames) (at_list s frames) ≡ Some n) × (n.frames ≡ [])
  closes_all [] s = (at_list s [], refl, refl)
  closes_all (f ∷ outer) s =
      let c = closes_all outer (after_end cx.items f) in
      (c.0, closes_one f.kind f.block_type f.below s outer (ending_of outer) ∙ c.1, c.2)
