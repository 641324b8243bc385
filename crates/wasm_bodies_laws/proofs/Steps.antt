-- Single steps of the machine, from what the judgement on trees asks of the operator.
use Rattle.std.proofs.Common.{◌≡◌, Bool, true, false, ◌&&◌, ℕ, List, [], ◌∷◌, Option, Some, None, option_map, refl, sym, ap, subst, ◌∙◌}
use Rattle.std.specs.Option.{option_and_then, unwrap_or}
use Rattle.std.proofs.lemmas.Option.{none-some, same_Some}
use Rattle.wasm_bodies.specs.BodyContext.{BodyContext, provided, written}
use Rattle.wasm_bodies.specs.Bodies.{Entered, entered, entered_with, block_signature, start_of, after_block, IsExactly}
use Rattle.wasm_bodies.specs.Effects.{Labels, effect}
use Rattle.wasm_bodies.specs.Operands.{State, taken, all_taken, given, fresh}
use Rattle.wasm_bodies.specs.OperatorGates.{is_on}
use Rattle.wasm_bodies.specs.Operators.{BlockType, Empty, Value, Indexed, Operator, Block, Loop, If, Else, End}
use Rattle.wasm_bodies.specs.Signatures.{from_to, gives_one}
use Rattle.wasm_bodies.proofs.Judging.{split, under}
use Rattle.wasm_spec.specs.Types.{I32, FuncType}
use Rattle.wasm_bodies_laws.specs.Machine.{FrameKind, IfFrame, ElseFrame, Frame, frame_of, block_meant, frame_type, labels_of, opened_as, with_block, may_end, is_structural, stepped_in}

-- ---- options

pub mapped : {A B : Type 0} (f : A → B) (o : Option A) (b : B) → option_map f o ≡ Some b → (a : A) × (o ≡ Some a) × (f a ≡ b)
mapped f None b e = absurd (none-some b e)
mapped f (Some a) b e = (a, refl, same_Some (f a) b e)

nothing : {A : Type 0} (condition : Bool) → provided {A = A} condition None ≡ None
nothing true = refl
nothing false = refl

passed : {A : Type 0} (a b : Bool) (o : Option A) → a ≡ true → b ≡ true → provided (a && b) o ≡ o
passed a b o e f = rw (e, f) refl

-- ---- operators that hold no inner list

-- what opens, parts or ends a block has no effect of its own
pub no_effect : {R : Type 0} (cx : BodyContext R) (labels : Labels R) (s : State R) (operator : Operator ℕ) → is_structural operator ≡ true → effect cx labels s operator ≡ None
no_effect cx labels s (Block type) e = nothing (is_on cx.features (Block type))
no_effect cx labels s (Loop type) e = nothing (is_on cx.features (Loop type))
no_effect cx labels s (If type) e = nothing (is_on cx.features (If type))
no_effect cx labels s Else e = nothing (is_on {R = ℕ} cx.features Else)
no_effect cx labels s End e = nothing (is_on {R = ℕ} cx.features End)
no_effect cx labels s _ e = absurd cc

is_no_structure : {R : Type 0} (cx : BodyContext R) (labels : Labels R) (s m : State R) (operator : Operator ℕ) → effect cx labels s operator ≡ Some m → is_structural operator ≡ false
is_no_structure cx labels s m operator e = tells (is_structural operator) refl
  where
    tells : (b : Bool) → is_structural operator ≡ b → b ≡ false
    tells true is = absurd (none-some m (sym (no_effect cx labels s operator is) ∙ e))
    tells false is = refl

pub has_effect : {R : Type 0} (cx : BodyContext R) (f : Frame R) (outer : List (Frame R)) (s m : State R) (operator : Operator ℕ) → effect cx (labels_of cx.items (f ∷ outer)) s operator ≡ Some m
    → stepped_in cx (f ∷ outer) s operator ≡ Some (record { now = m; frames = f ∷ outer })
has_effect cx f outer s m operator e = rw (is_no_structure cx (labels_of cx.items (f ∷ outer)) s m operator e, e) refl

-- ---- blocks

module _ {R : Type 0} (cx : BodyContext R) where
  -- what the type of a block is in its frame
  pub record Meant (type : BlockType ℕ) (signature : FuncType R) : Type 0 where
    pub meant : BlockType R
    pub is_meant : block_meant cx type ≡ Some meant
    pub same : frame_type cx.items meant ≡ signature

  meant_of : (type : BlockType ℕ) (signature : FuncType R) → block_signature cx type ≡ Some signature → Meant type signature
  meant_of Empty signature e = record { meant = Empty; is_meant = refl; same = same_Some _ _ e }
  meant_of (Value type) signature e =
      let m = mapped gives_one (written cx.features cx.items type) signature e in
      record { meant = Value m.0; is_meant = ap (option_map (λ x. Value x)) m.1; same = m.2 }
  meant_of (Indexed index) signature e =
      record { meant = Indexed index; is_meant = ap (option_map (λ x. Indexed index)) e; same = ap (λ o. unwrap_or o (from_to [] [])) e }

  pub entered_meant : (operator : Operator ℕ) (type : BlockType ℕ) (s : State R) (b : Entered R) → entered cx operator type s ≡ Some b → Meant type b.signature
  entered_meant operator type s b e =
      let p = split (λ signature. entered_with cx.items signature s) (block_signature cx type) b (under (is_on cx.features operator) _ b e).1 in
      let m = mapped _ (all_taken cx.items p.0.params s) b p.2 in
      meant_of type b.signature (p.1 ∙ ap (λ x. Some x.signature) m.2)

  pub if_meant : (type : BlockType ℕ) (s : State R) (b : Entered R) → option_and_then (entered cx (If type) type) (taken cx.items I32 s) ≡ Some b → Meant type b.signature
  if_meant type s b e = let p = split (entered cx (If type) type) (taken cx.items I32 s) b e in entered_meant (If type) type p.0 b p.2

  abbrev pub frame_in : FrameKind → (type : BlockType ℕ) (b : Entered R) → Meant type b.signature → Frame R
  frame_in kind type b m = frame_of kind m.meant b.below

  pub opens : (kind : FrameKind) (type : BlockType ℕ) (b : Entered R) (m : Meant type b.signature) (outer : List (Frame R)) (attempt : Option (Entered R)) → attempt ≡ Some b
      → option_map (with_block cx.items outer) (option_and_then (λ meant. option_map (opened_as kind meant) attempt) (block_meant cx type))
      ≡ Some (record { now = start_of b; frames = frame_in kind type b m ∷ outer })
  opens kind type b m outer attempt e =
      rw (m.is_meant, e) (ap (λ (t : FuncType R). Some (record { now = fresh t.params b.below.assigned; frames = frame_in kind type b m ∷ outer })) m.same)

  -- ---- ends of blocks

  -- the list of the block ends with exactly what the block gives
  ends_so : (type : BlockType ℕ) (b : Entered R) (m : Meant type b.signature) (e : State R) → IsExactly cx.items b.signature.results e → IsExactly cx.items (frame_type cx.items m.meant).results e
  ends_so type b m e x = subst (λ (t : FuncType R). IsExactly cx.items t.results e) (sym m.same) x

  pub ends : (kind : FrameKind) (type : BlockType ℕ) (b : Entered R) (m : Meant type b.signature) (outer : List (Frame R)) (e : State R) → IsExactly cx.items b.signature.results e
      → may_end cx.items kind (frame_in kind type b m) ≡ true → stepped_in cx (frame_in kind type b m ∷ outer) e End ≡ Some (record { now = after_block b; frames = outer })
  ends kind type b m outer e x may =
      passed _ _ _ (ends_so type b m e x) may ∙ ap (λ (t : FuncType R). Some (record { now = given t.results b.below; frames = outer })) m.same

  -- without a second list, what is taken serves as what is given
  pub if_may_end : (type : BlockType ℕ) (b : Entered R) (m : Meant type b.signature) → IsExactly cx.items b.signature.results (start_of b) → may_end cx.items IfFrame (frame_in IfFrame type b m) ≡ true
  if_may_end type b m x = subst (λ (t : FuncType R). IsExactly cx.items t.results (fresh t.params b.below.assigned)) (sym m.same) x

  pub turns : (type : BlockType ℕ) (b : Entered R) (m : Meant type b.signature) (outer : List (Frame R)) (e : State R) → IsExactly cx.items b.signature.results e
      → stepped_in cx (frame_in IfFrame type b m ∷ outer) e Else ≡ Some (record { now = start_of b; frames = frame_in ElseFrame type b m ∷ outer })
  turns type b m outer e x =
      passed _ _ _ refl (ends_so type b m e x) ∙ ap (λ (t : FuncType R). Some (record { now = fresh t.params b.below.assigned; frames = frame_in ElseFrame type b m ∷ outer })) m.same
