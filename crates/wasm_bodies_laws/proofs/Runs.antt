-- Running the machine over code that is well typed.
use Rattle.std.proofs.Common.{◌≡◌, ℕ, List, ◌∷◌, Some, refl, sym, ap, ◌∙◌}
use Rattle.std.specs.Option.{option_and_then}
use Rattle.wasm_bodies.specs.BodyContext.{BodyContext}
use Rattle.wasm_bodies.specs.Bodies.{Code, done, simple, block, loop, if_then, if_else, flat, Entered, entered, start_of, after_block, IsExactly, EndsWith, Judged}
use Rattle.wasm_bodies.specs.Effects.{Labels}
use Rattle.wasm_bodies.specs.Operands.{State, taken}
use Rattle.wasm_bodies.specs.Operators.{BlockType, Operator, Block, Loop, If, Else, End}
use Rattle.wasm_spec.specs.Types.{ValType, I32}
use Rattle.wasm_bodies_laws.specs.Machine.{FrameKind, BlockFrame, LoopFrame, IfFrame, ElseFrame, Frame, Machine, label_types, labels_of, stepped, run}
use Rattle.wasm_bodies_laws.proofs.Steps.{has_effect, Meant, entered_meant, if_meant, frame_in, opens, ends, if_may_end, turns}

abbrev pub at_list : {R : Type 0} → State R → List (Frame R) → Machine R
at_list s frames = record { now = s; frames = frames }

module _ {R : Type 0} (cx : BodyContext R) where
  pub goes_on : (m n : Machine R) (operator : Operator ℕ) (operators : List (Operator ℕ)) → stepped cx m operator ≡ Some n → run cx (operator ∷ operators) m ≡ run cx operators n
  goes_on m n operator operators e = ap (option_and_then (run cx operators)) e

  -- ---- opened blocks

  -- From a list with these labels the first operator opens a block, and its closer leads on from where the list ends.
  pub record Opened (labels : Labels R) (s : State R) (outer : List (Frame R)) (first : Operator ℕ) (b : Entered R) (label : List (ValType R)) (closer : Operator ℕ) (next : Machine R) : Type 0 where
    pub frame : Frame R
    pub labels_are : labels_of cx.items (frame ∷ outer) ≡ label ∷ labels
    pub enters : stepped cx (at_list s outer) first ≡ Some (at_list (start_of b) (frame ∷ outer))
    pub closes : (last : State R) → IsExactly cx.items b.signature.results last → stepped cx (at_list last (frame ∷ outer)) closer ≡ Some next

  inner_labels : (kind : FrameKind) (type : BlockType ℕ) (b : Entered R) (m : Meant cx type b.signature) (outer : List (Frame R)) (labels : Labels R) → labels_of cx.items outer ≡ labels
      → labels_of cx.items (frame_in cx kind type b m ∷ outer) ≡ label_types kind b.signature ∷ labels
  inner_labels kind type b m outer labels l = rw (m.same, l) refl

  module _ (labels : Labels R) (s : State R) (f : Frame R) (outer : List (Frame R)) (type : BlockType ℕ) (b : Entered R) (l : labels_of cx.items (f ∷ outer) ≡ labels) where
    abbrev pub Attempted : Type 0
    Attempted = option_and_then (entered cx (If type) type) (taken cx.items I32 s) ≡ Some b

    pub block_opened : entered cx (Block type) type s ≡ Some b → Opened labels s (f ∷ outer) (Block type) b b.signature.results End (at_list (after_block b) (f ∷ outer))
    block_opened e =
        let m = entered_meant cx (Block type) type s b e in
        record {
          frame = frame_in cx BlockFrame type b m;
          labels_are = inner_labels BlockFrame type b m (f ∷ outer) labels l;
          enters = opens cx BlockFrame type b m (f ∷ outer) _ e;
          closes = λ last x. ends cx BlockFrame type b m (f ∷ outer) last x refl;
        }

    pub loop_opened : entered cx (Loop type) type s ≡ Some b → Opened labels s (f ∷ outer) (Loop type) b b.signature.params End (at_list (after_block b) (f ∷ outer))
    loop_opened e =
        let m = entered_meant cx (Loop type) type s b e in
        record {
          frame = frame_in cx LoopFrame type b m;
          labels_are = inner_labels LoopFrame type b m (f ∷ outer) labels l;
          enters = opens cx LoopFrame type b m (f ∷ outer) _ e;
          closes = λ last x. ends cx LoopFrame type b m (f ∷ outer) last x refl;
        }

    pub if_opened : Attempted → IsExactly cx.items b.signature.results (start_of b) → Opened labels s (f ∷ outer) (If type) b b.signature.results End (at_list (after_block b) (f ∷ outer))
    if_opened e may =
        let m = if_meant cx type s b e in
        record {
          frame = frame_in cx IfFrame type b m;
          labels_are = inner_labels IfFrame type b m (f ∷ outer) labels l;
          enters = opens cx IfFrame type b m (f ∷ outer) _ e;
          closes = λ last x. ends cx IfFrame type b m (f ∷ outer) last x (if_may_end cx type b m may);
        }

    -- an `if` with two lists
    pub record Choice : Type 0 where
      pub second : Frame R
      pub first_list : Opened labels s (f ∷ outer) (If type) b b.signature.results Else (at_list (start_of b) (second ∷ f ∷ outer))
      pub second_labels : labels_of cx.items (second ∷ f ∷ outer) ≡ b.signature.results ∷ labels
      pub second_closes : (last : State R) → IsExactly cx.items b.signature.results last → stepped cx (at_list last (second ∷ f ∷ outer)) End ≡ Some (at_list (after_block b) (f ∷ outer))

    pub choice_opened : Attempted → Choice
    choice_opened e =
        let m = if_meant cx type s b e in
        record {
          second = frame_in cx ElseFrame type b m;
          first_list = record {
            frame = frame_in cx IfFrame type b m;
            labels_are = inner_labels IfFrame type b m (f ∷ outer) labels l;
            enters = opens cx IfFrame type b m (f ∷ outer) _ e;
            closes = turns cx type b m (f ∷ outer);
          };
          second_labels = inner_labels ElseFrame type b m (f ∷ outer) labels l;
          second_closes = λ last x. ends cx ElseFrame type b m (f ∷ outer) last x refl;
        }

  -- ---- code

  -- past the list of a block, which the machine runs through
  through : (labels : Labels R) (s : State R) (outer : List (Frame R)) (first : Operator ℕ) (b : Entered R) (label : List (ValType R)) (closer : Operator ℕ) (next : Machine R)
      (o : Opened labels s outer first b label closer next) (inner : Code) (last : State R) (others : List (Operator ℕ)) → IsExactly cx.items b.signature.results last
      → run cx (flat inner (closer ∷ others)) (at_list (start_of b) (o.frame ∷ outer)) ≡ run cx (closer ∷ others) (at_list last (o.frame ∷ outer))
      → run cx (first ∷ flat inner (closer ∷ others)) (at_list s outer) ≡ run cx others next
  through labels s outer first b label closer next o inner last others x e =
      goes_on (at_list s outer) (at_list (start_of b) (o.frame ∷ outer)) first (flat inner (closer ∷ others)) o.enters ∙ e
      ∙ goes_on (at_list last (o.frame ∷ outer)) next closer others (o.closes last x)

  pub runs_through : (labels : Labels R) (s : State R) (code : Code) (last : State R) (f : Frame R) (outer : List (Frame R)) (after : List (Operator ℕ)) → labels_of cx.items (f ∷ outer) ≡ labels
      → Judged cx labels s code last → run cx (flat code after) (at_list s (f ∷ outer)) ≡ run cx after (at_list last (f ∷ outer))
  runs_through labels s done last f outer after l j = ap (λ x. run cx after (at_list x (f ∷ outer))) (sym j)
  runs_through labels s (simple operator rest) last f outer after l j =
      goes_on (at_list s (f ∷ outer)) (at_list j.0 (f ∷ outer)) operator (flat rest after) (has_effect cx f outer s j.0 operator (rw l j.1))
      ∙ runs_through labels j.0 rest last f outer after l j.2
  runs_through labels s (block type inner rest) last f outer after l j =
      let b = j.0 in
      let o = block_opened labels s f outer type b l j.1 in
      through labels s (f ∷ outer) (Block type) b b.signature.results End _ o inner j.2.0 (flat rest after) j.2.2
      (runs_through (b.signature.results ∷ labels) (start_of b) inner j.2.0 o.frame (f ∷ outer) (End ∷ flat rest after) o.labels_are j.2.1)
      ∙ runs_through labels (after_block b) rest last f outer after l j.3
  runs_through labels s (loop type inner rest) last f outer after l j =
      let b = j.0 in
      let o = loop_opened labels s f outer type b l j.1 in
      through labels s (f ∷ outer) (Loop type) b b.signature.params End _ o inner j.2.0 (flat rest after) j.2.2
      (runs_through (b.signature.params ∷ labels) (start_of b) inner j.2.0 o.frame (f ∷ outer) (End ∷ flat rest after) o.labels_are j.2.1)
      ∙ runs_through labels (after_block b) rest last f outer after l j.3
  runs_through labels s (if_then type inner rest) last f outer after l j =
      let b = j.0 in
      let o = if_opened labels s f outer type b l j.1 j.3 in
      through labels s (f ∷ outer) (If type) b b.signature.results End _ o inner j.2.0 (flat rest after) j.2.2
      (runs_through (b.signature.results ∷ labels) (start_of b) inner j.2.0 o.frame (f ∷ outer) (End ∷ flat rest after) o.labels_are j.2.1)
      ∙ runs_through labels (after_block b) rest last f outer after l j.4
  runs_through labels s (if_else type inner other rest) last f outer after l j =
      let b = j.0 in
      let c = choice_opened labels s f outer type b l j.1 in
      let o = c.first_list in
      through labels s (f ∷ outer) (If type) b b.signature.results Else _ o inner j.2.0 (flat other (End ∷ flat rest after)) j.2.2
      (runs_through (b.signature.results ∷ labels) (start_of b) inner j.2.0 o.frame (f ∷ outer) (Else ∷ flat other (End ∷ flat rest after)) o.labels_are j.2.1)
      ∙ runs_through (b.signature.results ∷ labels) (start_of b) other j.3.0 c.second (f ∷ outer) (End ∷ flat rest after) c.second_labels j.3.1
      ∙ goes_on (at_list j.3.0 (c.second ∷ f ∷ outer)) (at_list (after_block b) (f ∷ outer)) End (flat rest after) (c.second_closes j.3.0 j.3.2)
      ∙ runs_through labels (after_block b) rest last f outer after l j.4

  -- past the list of a block that is judged
  pub runs_past : (labels : Labels R) (s : State R) (outer : List (Frame R)) (first : Operator ℕ) (b : Entered R) (label : List (ValType R)) (closer : Operator ℕ) (next : Machine R)
      (o : Opened labels s outer first b label closer next) (inner : Code) (others : List (Operator ℕ)) → EndsWith cx.items b.signature.results (λ last. Judged cx (label ∷ labels) (start_of b) inner last)
      → run cx (first ∷ flat inner (closer ∷ others)) (at_list s outer) ≡ run cx others next
  runs_past labels s outer first b label closer next o inner others i =
      through labels s outer first b label closer next o inner i.0 others i.2 (runs_through (label ∷ labels) (start_of b) inner i.0 o.frame outer (closer ∷ others) o.labels_are i.1)
