-- Where the machine closes each block, the operators do so in the tree.
use Rattle.std.proofs.Common.{◌≡◌, Bool, true, false, ◌&&◌, ℕ, List, [], ◌∷◌, Option, Some, option_map, refl, sym, ap, subst, ◌∙◌}
use Rattle.std.specs.Option.{option_and_then}
use Rattle.std.proofs.lemmas.Option.{none-some, same_Some}
use Rattle.wasm_bodies.specs.BodyContext.{BodyContext}
use Rattle.wasm_bodies.specs.Bodies.{Entered, entered}
use Rattle.wasm_bodies.specs.Effects.{Labels, effect}
use Rattle.wasm_bodies.specs.Operands.{State, taken}
use Rattle.wasm_bodies.specs.Operators.{BlockType, Operator, Block, Loop, If, Else, End}
use Rattle.wasm_bodies.proofs.Judging.{split, under}
use Rattle.wasm_spec.specs.Types.{ValType, I32, FuncType}
use Rattle.wasm_bodies_laws.specs.Machine.{FrameKind, BlockFrame, LoopFrame, IfFrame, ElseFrame, Frame, frame_of, Machine, block_meant, frame_type, label_types, labels_of, opened_as, opened, begun, with_block, has_given, may_end, is_if, after_end, structural, is_structural, stepped_in, stepped, run}
use Rattle.wasm_bodies_laws.proofs.Steps.{mapped, Meant, entered_meant, if_meant}
use Rattle.wasm_bodies_laws.proofs.Runs.{at_list}
use Rattle.wasm_bodies_laws.proofs.Closing.{Closing, Finishes, CanFinish, Inner, from_simple, from_block, from_loop, from_if, from_end, from_else}

both_true : (a b : Bool) → (a && b) ≡ true → (a ≡ true) × (b ≡ true)
both_true true b e = (refl, e)
both_true false b e = absurd cc

-- what a jump to the second list of an `if` takes, a jump to the first one takes
else_label : {R : Type 0} (kind : FrameKind) (type : FuncType R) → is_if kind ≡ true → type.results ≡ label_types kind type
else_label IfFrame type e = refl
else_label _ type e = absurd cc

module _ {R : Type 0} (cx : BodyContext R) where
  -- a block that was opened, as the judgement has it
  record OpenedAs (kind : FrameKind) (attempt : Option (Entered R)) (g : Frame R) : Type 0 where
    meant : BlockType R
    below : State R
    enters : attempt ≡ Some (record { signature = frame_type cx.items meant; below = below })
    same : frame_of kind meant below ≡ g

  opened_so : (kind : FrameKind) (type : BlockType ℕ) (attempt : Option (Entered R)) (g : Frame R) → ((b : Entered R) → attempt ≡ Some b → Meant cx type b.signature)
      → option_and_then (λ meant. option_map (opened_as kind meant) attempt) (block_meant cx type) ≡ Some g → OpenedAs kind attempt g
  opened_so kind type attempt g meets e =
      let p = split (λ meant. option_map (opened_as kind meant) attempt) (block_meant cx type) g e in
      let m = mapped (opened_as kind p.0) attempt g p.2 in
      let w = meets m.0 m.1 in
      let is : frame_type cx.items p.0 ≡ m.0.signature = ap (frame_type cx.items) (same_Some p.0 w.meant (sym p.1 ∙ w.is_meant)) ∙ w.same in
      record { meant = p.0; below = m.0.below; enters = m.1 ∙ ap (λ t. Some (record { signature = t; below = m.0.below })) (sym is); same = m.2 }

  module _ (f : Frame R) (outer : List (Frame R)) (s : State R) where
    abbrev AtFront : List (Operator ℕ) → Type 0
    AtFront operators = Finishes cx (f ∷ outer) s operators

    abbrev Next : List (Operator ℕ) → Type 0
    Next operators = Finishes cx outer (after_end cx.items f) operators

    abbrev labels : Labels R
    labels = labels_of cx.items (f ∷ outer)

    back_end : (n : Machine R) (rest : List (Operator ℕ)) → structural cx f outer s End ≡ Some n → CanFinish cx n rest → AtFront (End ∷ rest)
    back_end n rest e c =
        let u = under (has_given cx.items f s && may_end cx.items f.kind f) _ n e in
        let b = both_true (has_given cx.items f s) (may_end cx.items f.kind f) u.0 in
        from_end cx labels f Next s rest b.0 b.1 (subst (λ m. CanFinish cx m rest) (sym (same_Some _ n u.1)) c)

    back_else : (n : Machine R) (rest : List (Operator ℕ)) → structural cx f outer s Else ≡ Some n → CanFinish cx n rest → AtFront (Else ∷ rest)
    back_else n rest e c =
        let u = under (is_if f.kind && has_given cx.items f s) _ n e in
        let b = both_true (is_if f.kind) (has_given cx.items f s) u.0 in
        let second = frame_of ElseFrame f.block_type f.below in
        let there : Finishes cx (second ∷ outer) (begun cx.items f) rest = subst (λ m. CanFinish cx m rest) (sym (same_Some _ n u.1)) c in
        from_else cx labels f Next s rest b.0 b.1
        (subst (λ (label : List (ValType R)). Closing cx (label ∷ labels_of cx.items outer) second Next (begun cx.items f) rest) (else_label f.kind (frame_type cx.items f.block_type) b.0) there)

    -- into the block that is opened
    inside : (kind : FrameKind) (attempt : Option (Entered R)) (g : Frame R) (o : OpenedAs kind attempt g) (n : Machine R) (rest : List (Operator ℕ)) → with_block cx.items (f ∷ outer) g ≡ n → CanFinish cx n rest
        → Inner cx labels f Next (frame_of kind o.meant o.below) rest
    inside kind attempt g o n rest e c = subst (λ h. Inner cx labels f Next h rest) (sym o.same) (subst (λ m. CanFinish cx m rest) (sym e) c)

    back_structural : (operator : Operator ℕ) (n : Machine R) (rest : List (Operator ℕ)) → structural cx f outer s operator ≡ Some n → CanFinish cx n rest → AtFront (operator ∷ rest)
    back_structural End n rest e c = back_end n rest e c
    back_structural Else n rest e c = back_else n rest e c
    back_structural (Block type) n rest e c =
        let m = mapped (with_block cx.items (f ∷ outer)) (opened cx s (Block type)) n e in
        let o = opened_so BlockFrame type (entered cx (Block type) type s) m.0 (entered_meant cx (Block type) type s) m.1 in
        from_block cx labels f Next s type o.meant o.below rest o.enters (inside BlockFrame _ m.0 o n rest m.2 c)
    back_structural (Loop type) n rest e c =
        let m = mapped (with_block cx.items (f ∷ outer)) (opened cx s (Loop type)) n e in
        let o = opened_so LoopFrame type (entered cx (Loop type) type s) m.0 (entered_meant cx (Loop type) type s) m.1 in
        from_loop cx labels f Next s type o.meant o.below rest o.enters (inside LoopFrame _ m.0 o n rest m.2 c)
    back_structural (If type) n rest e c =
        let m = mapped (with_block cx.items (f ∷ outer)) (opened cx s (If type)) n e in
        let o = opened_so IfFrame type (option_and_then (entered cx (If type) type) (taken cx.items I32 s)) m.0 (if_meant cx type s) m.1 in
        from_if cx labels f Next s type o.meant o.below rest o.enters (inside IfFrame _ m.0 o n rest m.2 c)
    back_structural _ n rest e c = absurd (none-some n e)

    back_simple : (operator : Operator ℕ) (n : Machine R) (rest : List (Operator ℕ)) → option_map (λ m. at_list m (f ∷ outer)) (effect cx labels s operator) ≡ Some n → CanFinish cx n rest → AtFront (operator ∷ rest)
    back_simple operator n rest e c =
        let m = mapped (λ m. at_list m (f ∷ outer)) (effect cx labels s operator) n e in
        from_simple cx labels f Next s m.0 operator rest m.1 (subst (λ k. CanFinish cx k rest) (sym m.2) c)

  back_in : (frames : List (Frame R)) (s : State R) (operator : Operator ℕ) (n : Machine R) (rest : List (Operator ℕ)) → stepped_in cx frames s operator ≡ Some n → CanFinish cx n rest → Finishes cx frames s (operator ∷ rest)
  back_in [] s operator n rest e c = absurd (none-some n e)
  back_in (f ∷ outer) s operator n rest e c = by (is_structural operator) refl
    where
      by : (b : Bool) → is_structural operator ≡ b → Finishes cx (f ∷ outer) s (operator ∷ rest)
      by true is = back_structural f outer s operator n rest (rw is at e) c
      by false is = back_simple f outer s operator n rest (rw is at e) c

  pub can_finish : (operators : List (Operator ℕ)) (m n : Machine R) → run cx operators m ≡ Some n → n.frames ≡ [] → CanFinish cx m operators
  can_finish [] m n e closed = subst (λ frames. Finishes cx frames m.now []) (sym (ap (λ k. k.frames) (same_Some m n e) ∙ closed)) refl
  can_finish (operator ∷ operators) m n e closed =
      let p = split (run cx operators) (stepped cx m operator) n e in
      back_in m.frames m.now operator p.0 operators p.1 (can_finish operators p.0 n p.2 closed)
