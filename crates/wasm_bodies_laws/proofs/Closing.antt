-- Conditions under which the operators still to come close each open block, seen from the tree.
use Rattle.std.proofs.Common.{◌≡◌, ◌⊎◌, inl, inr, true, ℕ, List, [], ◌∷◌, Some, refl, ap, ◌∙◌}
use Rattle.std.specs.Option.{option_and_then}
use Rattle.wasm_bodies.specs.BodyContext.{BodyContext}
use Rattle.wasm_bodies.specs.Bodies.{Code, done, simple, block, loop, if_then, if_else, flat, Entered, entered, IsExactly, EndsWith, Judged}
use Rattle.wasm_bodies.specs.Effects.{Labels, effect}
use Rattle.wasm_bodies.specs.Operands.{State, taken}
use Rattle.wasm_bodies.specs.Operators.{BlockType, Operator, Block, Loop, If, Else, End}
use Rattle.wasm_spec.specs.Types.{ValType, I32}
use Rattle.wasm_bodies_laws.specs.Machine.{FrameKind, BlockFrame, LoopFrame, IfFrame, ElseFrame, Frame, frame_of, Machine, frame_type, label_of, labels_of, begun, has_given, may_end, is_if, after_end}

-- an inner list, its end, and the rest of the list around it
joined : (inner rest : Code) (operators after others last : List (Operator ℕ)) → operators ≡ flat inner after → after ≡ End ∷ others → others ≡ flat rest last → operators ≡ flat inner (End ∷ flat rest last)
joined inner rest operators after others last e f g = e ∙ ap (flat inner) (f ∙ ap (λ xs. End ∷ xs) g)

-- the same with a second list between them
joined_twice : (inner other rest : Code) (operators after tail others last : List (Operator ℕ)) → operators ≡ flat inner after → after ≡ Else ∷ flat other tail → tail ≡ End ∷ others → others ≡ flat rest last
    → operators ≡ flat inner (Else ∷ flat other (End ∷ flat rest last))
joined_twice inner other rest operators after tail others last e f g h = e ∙ ap (flat inner) (f ∙ ap (λ xs. Else ∷ xs) (joined other rest (flat other tail) tail others last refl g h))

module _ {R : Type 0} (cx : BodyContext R) where
  abbrev pub gives_in : Frame R → List (ValType R)
  gives_in f = (frame_type cx.items f.block_type).results

  -- the code, then `end`, and then what leads on
  abbrev ThenEnd : (List (Operator ℕ) → Type 0) → List (Operator ℕ) → Type 0
  ThenEnd Next after = (rest : List (Operator ℕ)) × (after ≡ End ∷ rest) × Next rest

  -- an `if` is closed by `end`, if what it takes serves as what it gives, or by `else`, another list and `end`
  abbrev ClosesIf : Labels R → Frame R → (List (Operator ℕ) → Type 0) → List (Operator ℕ) → Type 0
  ClosesIf labels f Next after =
      (IsExactly cx.items (gives_in f) (begun cx.items f) × ThenEnd Next after)
      ⊎ ((other : Code) × (tail : List (Operator ℕ)) × (after ≡ Else ∷ flat other tail)
      × EndsWith cx.items (gives_in f) (λ e. Judged cx labels (begun cx.items f) other e) × ThenEnd Next tail)

  abbrev Closes : FrameKind → Labels R → Frame R → (List (Operator ℕ) → Type 0) → List (Operator ℕ) → Type 0
  Closes IfFrame labels f Next after = ClosesIf labels f Next after
  Closes _ labels f Next after = ThenEnd Next after

  -- From a state the operators end the list of a block, close the block, and lead on.
  pub record Closing (labels : Labels R) (f : Frame R) (Next : List (Operator ℕ) → Type 0) (s : State R) (operators : List (Operator ℕ)) : Type 0 where
    pub code : Code
    pub after : List (Operator ℕ)
    pub is_flat : operators ≡ flat code after
    pub typed : EndsWith cx.items (gives_in f) (λ e. Judged cx labels s code e)
    pub closes : Closes f.kind labels f Next after

  -- From a state the operators close each of the open blocks, and nothing is left of them.
  abbrev pub Finishes : List (Frame R) → State R → List (Operator ℕ) → Type 0
  Finishes [] s operators = operators ≡ []
  Finishes (f ∷ outer) s operators = Closing (labels_of cx.items (f ∷ outer)) f (λ rest. Finishes outer (after_end cx.items f) rest) s operators

  abbrev pub CanFinish : Machine R → List (Operator ℕ) → Type 0
  CanFinish m operators = Finishes m.frames m.now operators

  -- ---- back over one operator

  module _ (labels : Labels R) (f : Frame R) (Next : List (Operator ℕ) → Type 0) where
    pub from_simple : (s m : State R) (operator : Operator ℕ) (rest : List (Operator ℕ)) → effect cx labels s operator ≡ Some m → Closing labels f Next m rest → Closing labels f Next s (operator ∷ rest)
    from_simple s m operator rest e c = record {
      code = simple operator c.code;
      after = c.after;
      is_flat = ap (λ xs. operator ∷ xs) c.is_flat;
      typed = (c.typed.0, (m, e, c.typed.1), c.typed.2);
      closes = c.closes;
    }

    -- the list of a block, seen from the one around it
    abbrev pub Inner : Frame R → List (Operator ℕ) → Type 0
    Inner g rest = Closing (label_of cx.items g ∷ labels) g (λ others. Closing labels f Next (after_end cx.items g) others) (begun cx.items g) rest

    -- the block as the judgement has it
    abbrev pub entered_in : Frame R → Entered R
    entered_in g = record { signature = frame_type cx.items g.block_type; below = g.below }

    pub from_block : (s : State R) (type : BlockType ℕ) (meant : BlockType R) (below : State R) (rest : List (Operator ℕ)) → entered cx (Block type) type s ≡ Some (entered_in (frame_of BlockFrame meant below))
        → Inner (frame_of BlockFrame meant below) rest → Closing labels f Next s (Block type ∷ rest)
    from_block s type meant below rest e c =
        let o = c.closes.2 in
        record {
          code = block type c.code o.code;
          after = o.after;
          is_flat = ap (λ xs. Block type ∷ xs) (joined c.code o.code rest c.after c.closes.0 o.after c.is_flat c.closes.1 o.is_flat);
          typed = (o.typed.0, (entered_in (frame_of BlockFrame meant below), e, c.typed, o.typed.1), o.typed.2);
          closes = o.closes;
        }

    pub from_loop : (s : State R) (type : BlockType ℕ) (meant : BlockType R) (below : State R) (rest : List (Operator ℕ)) → entered cx (Loop type) type s ≡ Some (entered_in (frame_of LoopFrame meant below))
        → Inner (frame_of LoopFrame meant below) rest → Closing labels f Next s (Loop type ∷ rest)
    from_loop s type meant below rest e c =
        let o = c.closes.2 in
        record {
          code = loop type c.code o.code;
          after = o.after;
          is_flat = ap (λ xs. Loop type ∷ xs) (joined c.code o.code rest c.after c.closes.0 o.after c.is_flat c.closes.1 o.is_flat);
          typed = (o.typed.0, (entered_in (frame_of LoopFrame meant below), e, c.typed, o.typed.1), o.typed.2);
          closes = o.closes;
        }

    pub from_if : (s : State R) (type : BlockType ℕ) (meant : BlockType R) (below : State R) (rest : List (Operator ℕ))
        → option_and_then (entered cx (If type) type) (taken cx.items I32 s) ≡ Some (entered_in (frame_of IfFrame meant below))
        → Inner (frame_of IfFrame meant below) rest → Closing labels f Next s (If type ∷ rest)
    from_if s type meant below rest e c = either c.closes
      where
        either : ClosesIf ((frame_type cx.items meant).results ∷ labels) (frame_of IfFrame meant below) (λ others. Closing labels f Next (after_end cx.items (frame_of IfFrame meant below)) others) c.after
            → Closing labels f Next s (If type ∷ rest)
        either (inl h) =
            let o = h.1.2 in
            record {
              code = if_then type c.code o.code;
              after = o.after;
              is_flat = ap (λ xs. If type ∷ xs) (joined c.code o.code rest c.after h.1.0 o.after c.is_flat h.1.1 o.is_flat);
              typed = (o.typed.0, (entered_in (frame_of IfFrame meant below), e, c.typed, h.0, o.typed.1), o.typed.2);
              closes = o.closes;
            }
        either (inr h) =
            let o = h.4.2 in
            record {
              code = if_else type c.code h.0 o.code;
              after = o.after;
              is_flat = ap (λ xs. If type ∷ xs) (joined_twice c.code h.0 o.code rest c.after h.1 h.4.0 o.after c.is_flat h.2 h.4.1 o.is_flat);
              typed = (o.typed.0, (entered_in (frame_of IfFrame meant below), e, c.typed, h.3, o.typed.1), o.typed.2);
              closes = o.closes;
            }

    by_end : (kind : FrameKind) (rest : List (Operator ℕ)) → may_end cx.items kind f ≡ true → Next rest → Closes kind labels f Next (End ∷ rest)
    by_end BlockFrame rest may n = (rest, refl, n)
    by_end LoopFrame rest may n = (rest, refl, n)
    by_end ElseFrame rest may n = (rest, refl, n)
    by_end IfFrame rest may n = inl (may, (rest, refl, n))

    pub from_end : (s : State R) (rest : List (Operator ℕ)) → has_given cx.items f s ≡ true → may_end cx.items f.kind f ≡ true → Next rest → Closing labels f Next s (End ∷ rest)
    from_end s rest x may n = record { code = done; after = End ∷ rest; is_flat = refl; typed = (s, refl, x); closes = by_end f.kind rest may n }

    by_else : (kind : FrameKind) (rest : List (Operator ℕ)) → is_if kind ≡ true → Closing labels (frame_of ElseFrame f.block_type f.below) Next (begun cx.items f) rest → Closes kind labels f Next (Else ∷ rest)
    by_else IfFrame rest i c = inr (c.code, c.after, ap (λ xs. Else ∷ xs) c.is_flat, c.typed, c.closes)
    by_else _ rest i c = absurd cc

    pub from_else : (s : State R) (rest : List (Operator ℕ)) → is_if f.kind ≡ true → has_given cx.items f s ≡ true → Closing labels (frame_of ElseFrame f.block_type f.below) Next (begun cx.items f) rest
        → Closing labels f Next s (Else ∷ rest)
    from_else s rest i x c = record { code = done; after = Else ∷ rest; is_flat = refl; typed = (s, refl, x); closes = by_else f.kind rest i c }
