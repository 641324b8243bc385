-- One step, by what its parts do.
use Rattle.std.proofs.Common.{◌≡◌, ℕ, true, false, Option, Some, None, IsSome, Result, Ok, Err, List, [], ◌∷◌, refl, sym, ap, subst, ◌∙◌}
use Rattle.std.specs.Option.{option_and_then, option_map}
use Rattle.wasm_bodies.specs.Bodies.{Entered, block_signature, entered, entered_with}
use Rattle.wasm_bodies.specs.BodyContext.{BodyContext, provided}
use Rattle.wasm_bodies.specs.Effects.{effect_of}
use Rattle.wasm_bodies.specs.OperatorGates.{is_on}
use Rattle.wasm_bodies.specs.Operands.{State, taken}
use Rattle.wasm_bodies.specs.Operators.{BlockType, Operator, Block, Loop, If, Else, End}
use Rattle.wasm_bodies_laws.specs.Machine.{FrameKind, BlockFrame, LoopFrame, IfFrame, Frame, Machine, block_meant, is_structural, labels_of, opened_as, stepped, stepped_in, with_block}
use Rattle.wasm_spec.specs.Types.{I32}
use Rattle.wasmparser_operators.specs.OperatorValues.{operator}
use Rattle.wasmparser_operators.specs.declared.immediates.BlockType as code
use Rattle.wasmparser_operators.specs.declared.operator.Operator as ops
use Rattle.wasmparser_operators.specs.declared.operator.Operator.TheVariants as operators
use Rattle.wasmparser_types.specs.Index.{Index}
use Rattle.wasmparser_func_validator.specs.Steps.{HasEffect, Steps, Takes, opens_from}
use Rattle.wasmparser_func_validator.specs.declared.refusal.Refusal.{Refusal}
use Rattle.wasmparser_func_validator.specs.declared.refusal.Refusal.TheVariants.{Invalid, Memory}

mapped_some : {A B : Type 0} (f : A → B) (o : Option A) → IsSome o → IsSome (option_map f o)
mapped_some f None h = absurd cc
mapped_some f (Some x) h = refl

-- nothing is entered
abbrev never : FrameKind → Option (Entered Index) → Option (BlockType Index) → Option (Frame Index)
never kind entered meant = option_and_then (λ m. option_map (opened_as kind m) entered) meant

no_block : (kind : FrameKind) (meant : Option (BlockType Index)) → never kind None meant ≡ None
no_block kind None = refl
no_block kind (Some m) = refl

module _ (cx : BodyContext Index) (s : State Index) (f : Frame Index) (fs : List (Frame Index)) where
  -- blocks, where they are allowed
  pub step_block : (type : BlockType ℕ) → is_on cx.features (Block type) ≡ true → stepped_in cx (f ∷ fs) s (Block type) ≡ opens_from cx BlockFrame type (f ∷ fs) s
  step_block type e = rw e refl

  pub step_loop : (type : BlockType ℕ) → is_on cx.features (Loop type) ≡ true → stepped_in cx (f ∷ fs) s (Loop type) ≡ opens_from cx LoopFrame type (f ∷ fs) s
  step_loop type e = rw e refl

  pub step_if : (type : BlockType ℕ) → is_on cx.features (If type) ≡ true → stepped_in cx (f ∷ fs) s (If type) ≡ option_and_then (opens_from cx IfFrame type (f ∷ fs)) (taken cx.items I32 s)
  step_if type e = by_taken (taken cx.items I32 s)
    where
      by_taken : (o : Option (State Index)) → option_map (with_block cx.items (f ∷ fs)) (never IfFrame (option_and_then (entered cx (If type) type) o) (block_meant cx type)) ≡ option_and_then (opens_from cx IfFrame type (f ∷ fs)) o
      by_taken None = ap (option_map (with_block cx.items (f ∷ fs))) (no_block IfFrame (block_meant cx type))
      by_taken (Some t) = rw e refl

  abbrev tried : BlockType ℕ → State Index → Option (Entered Index)
  tried type t = option_and_then (λ signature. entered_with cx.items signature t) (block_signature cx type)

  abbrev there : State Index → Machine Index
  there m = record { now = m; frames = f ∷ fs }

  -- operators that aren't allowed
  pub gated : (op : Operator ℕ) → is_on cx.features op ≡ false → stepped_in cx (f ∷ fs) s op ≡ None
  gated (Block type) e = ap (λ b. option_map (with_block cx.items (f ∷ fs)) (never BlockFrame (provided b (tried type s)) (block_meant cx type))) e ∙ ap (option_map (with_block cx.items (f ∷ fs))) (no_block BlockFrame (block_meant cx type))
  gated (Loop type) e = ap (λ b. option_map (with_block cx.items (f ∷ fs)) (never LoopFrame (provided b (tried type s)) (block_meant cx type))) e ∙ ap (option_map (with_block cx.items (f ∷ fs))) (no_block LoopFrame (block_meant cx type))
  gated (If type) e = by_taken (taken cx.items I32 s)
    where
      by_taken : (o : Option (State Index)) → option_map (with_block cx.items (f ∷ fs)) (never IfFrame (option_and_then (entered cx (If type) type) o) (block_meant cx type)) ≡ None
      by_taken None = ap (option_map (with_block cx.items (f ∷ fs))) (no_block IfFrame (block_meant cx type))
      by_taken (Some t) = ap (λ b. option_map (with_block cx.items (f ∷ fs)) (never IfFrame (provided b (tried type t)) (block_meant cx type))) e ∙ ap (option_map (with_block cx.items (f ∷ fs))) (no_block IfFrame (block_meant cx type))
  gated Else e = absurd cc
  gated End e = absurd cc
  gated op e = ap (λ b. option_map there (provided b (effect_of cx (labels_of cx.items (f ∷ fs)) s op))) e

  -- an operator with an effect
  pub plain : (op : Operator ℕ) (new : Machine Index) (r : Result (Unit {0}) Refusal) → is_structural op ≡ false → is_on cx.features op ≡ true
      → Takes (effect_of cx (labels_of cx.items (f ∷ fs)) s op) (record { now = s; frames = f ∷ fs }) new r → Steps (stepped_in cx (f ∷ fs) s op) (record { now = s; frames = f ∷ fs }) new r
  plain op new (Ok u) simple on h = rw (simple, on, h.0) (ap (λ l. Some (record { now = new.now; frames = l })) (sym h.1))
  plain op new (Err Invalid) simple on h = (rw (simple, on, h.0) refl, h.1)
  plain op new (Err Memory) simple on h = (rw (simple, on) (mapped_some there _ h.0), h.1)

-- an operator that no arm for blocks took
pub is_plain : (op : ops.Operator) → ((b : code.BlockType) → op ≡ operators.Block b → ⊥) → ((b : code.BlockType) → op ≡ operators.Loop b → ⊥) → ((b : code.BlockType) → op ≡ operators.If b → ⊥) → (op ≡ operators.Else → ⊥) → (op ≡ operators.End → ⊥) → is_structural (operator op) ≡ false
is_plain (operators.Block b) block loop if_ else_ end_ = absurd (block b refl)
is_plain (operators.Loop b) block loop if_ else_ end_ = absurd (loop b refl)
is_plain (operators.If b) block loop if_ else_ end_ = absurd (if_ b refl)
is_plain operators.Else block loop if_ else_ end_ = absurd (else_ refl)
is_plain operators.End block loop if_ else_ end_ = absurd (end_ refl)
is_plain op block loop if_ else_ end_ = refl

-- ---- in any machine

pub in_block : (cx : BodyContext Index) (old new : Machine Index) (type : BlockType ℕ) (r : Result (Unit {0}) Refusal) → (old.frames ≡ [] → ⊥) → true ≡ is_on cx.features (Block type)
    → Steps (opens_from cx BlockFrame type old.frames old.now) old new r → Steps (stepped cx old (Block type)) old new r
in_block cx old new type r inside on h = by_frames old.frames inside h
  where
    by_frames : (frames : List (Frame Index)) → (frames ≡ [] → ⊥) → Steps (opens_from cx BlockFrame type frames old.now) old new r → Steps (stepped_in cx frames old.now (Block type)) old new r
    by_frames [] inside h = absurd (inside refl)
    by_frames (f ∷ fs) inside h = subst (λ o. Steps o old new r) (sym (step_block cx old.now f fs type (sym on))) h

pub in_loop : (cx : BodyContext Index) (old new : Machine Index) (type : BlockType ℕ) (r : Result (Unit {0}) Refusal) → (old.frames ≡ [] → ⊥) → true ≡ is_on cx.features (Loop type)
    → Steps (opens_from cx LoopFrame type old.frames old.now) old new r → Steps (stepped cx old (Loop type)) old new r
in_loop cx old new type r inside on h = by_frames old.frames inside h
  where
    by_frames : (frames : List (Frame Index)) → (frames ≡ [] → ⊥) → Steps (opens_from cx LoopFrame type frames old.now) old new r → Steps (stepped_in cx frames old.now (Loop type)) old new r
    by_frames [] inside h = absurd (inside refl)
    by_frames (f ∷ fs) inside h = subst (λ o. Steps o old new r) (sym (step_loop cx old.now f fs type (sym on))) h

pub in_if : (cx : BodyContext Index) (old new : Machine Index) (type : BlockType ℕ) (r : Result (Unit {0}) Refusal) → (old.frames ≡ [] → ⊥) → true ≡ is_on cx.features (If type)
    → Steps (option_and_then (opens_from cx IfFrame type old.frames) (taken cx.items I32 old.now)) old new r → Steps (stepped cx old (If type)) old new r
in_if cx old new type r inside on h = by_frames old.frames inside h
  where
    by_frames : (frames : List (Frame Index)) → (frames ≡ [] → ⊥) → Steps (option_and_then (opens_from cx IfFrame type frames) (taken cx.items I32 old.now)) old new r → Steps (stepped_in cx frames old.now (If type)) old new r
    by_frames [] inside h = absurd (inside refl)
    by_frames (f ∷ fs) inside h = subst (λ o. Steps o old new r) (sym (step_if cx old.now f fs type (sym on))) h

pub not_allowed : (cx : BodyContext Index) (old : Machine Index) (op : Operator ℕ) → false ≡ is_on cx.features op → stepped cx old op ≡ None
not_allowed cx old op off = by_frames old.frames
  where
    by_frames : (frames : List (Frame Index)) → stepped_in cx frames old.now op ≡ None
    by_frames [] = refl
    by_frames (f ∷ fs) = gated cx old.now f fs op (sym off)

pub in_plain : (cx : BodyContext Index) (old new : Machine Index) (op : Operator ℕ) (r : Result (Unit {0}) Refusal) → (old.frames ≡ [] → ⊥) → is_structural op ≡ false → true ≡ is_on cx.features op
    → HasEffect cx op old new r → Steps (stepped cx old op) old new r
in_plain cx old new op r inside simple on h = by_frames old.frames inside h
  where
    by_frames : (frames : List (Frame Index)) → (frames ≡ [] → ⊥) → HasEffect cx op (record { now = old.now; frames = frames }) new r → Steps (stepped_in cx frames old.now op) (record { now = old.now; frames = frames }) new r
    by_frames [] inside h = absurd (inside refl)
    by_frames (f ∷ fs) inside h = plain cx old.now f fs op new r simple (sym on) h
