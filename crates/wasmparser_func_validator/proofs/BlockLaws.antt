-- Opening blocks.
use Rattle.std.proofs.Common.{◌≡◌, ℕ, Option, Some, None, IsSome, List, ◌∷◌, refl, sym, ap, subst, ◌∙◌}
use Rattle.std.specs.Option.{option_and_then, option_map}
use Rattle.wasm_bodies.specs.Bodies.{Entered, block_signature, entered_with}
use Rattle.wasm_bodies.specs.BodyContext.{BodyContext, func_at, written}
use Rattle.wasm_bodies.specs.Operands.{State, all_taken, fresh}
use Rattle.wasm_bodies.specs.Operators as operators
use Rattle.wasm_bodies.specs.Signatures.{gives_one}
use Rattle.wasm_bodies_laws.specs.Machine.{FrameKind, Frame, Machine, block_meant, frame_of, frame_type, opened_as, with_block}
use Rattle.wasm_spec.specs.Types.{ValType, FuncType}
use Rattle.wasmparser_func_validator.specs.Steps.{opens_from}
use Rattle.wasmparser_types.specs.Index.{Index}

some_is : {X : Type 0} (a b : X) → Some a ≡ Some b → a ≡ b
some_is a b e = cc

-- what is something is there
pub there_is : {X : Type 0} {o : Option X} {x : X} → o ≡ Some x → IsSome o
there_is e = rw e refl

-- a block type that stands for something has the signature of what it stands for
pub signature_of_meant : (cx : BodyContext Index) (type : operators.BlockType ℕ) (meant : operators.BlockType Index) → block_meant cx type ≡ Some meant → block_signature cx type ≡ Some (frame_type cx.items meant)
signature_of_meant cx operators.Empty meant e = ap (λ m. Some (frame_type cx.items m)) (some_is operators.Empty meant e)
signature_of_meant cx (operators.Value type) meant e = by_type (written cx.features cx.items type) e
  where
    by_type : (o : Option (ValType Index)) → option_map (λ t. operators.Value t) o ≡ Some meant → option_map gives_one o ≡ Some (frame_type cx.items meant)
    by_type None is = absurd cc
    by_type (Some t) is = ap (λ m. Some (frame_type cx.items m)) (some_is (operators.Value t) meant is)
signature_of_meant cx (operators.Indexed index) meant e = by_type (func_at cx.items index) refl e
  where
    by_type : (o : Option (FuncType Index)) → func_at cx.items index ≡ o → option_map {U = operators.BlockType Index} (λ (t : FuncType Index). operators.Indexed index) o ≡ Some meant → func_at cx.items index ≡ Some (frame_type cx.items meant)
    by_type None f is = absurd cc
    by_type (Some t) f is = subst (λ k. func_at cx.items index ≡ Some (frame_type cx.items k)) (some_is (operators.Indexed index) meant is) (rw f refl)

-- A block is opened that takes what is there.
pub opened : (cx : BodyContext Index) (kind : FrameKind) (type : operators.BlockType ℕ) (meant : operators.BlockType Index) (frames : List (Frame Index)) (s below : State Index) (params : List (ValType Index))
    → Some meant ≡ block_meant cx type → params ≡ (frame_type cx.items meant).params → all_taken cx.items params s ≡ Some below
    → opens_from cx kind type frames s ≡ Some (record { now = fresh params below.assigned; frames = frame_of kind meant below ∷ frames })
opened cx kind type meant frames s below params e p t =
    let made : State Index → Entered Index = λ m. record { signature = frame_type cx.items meant; below = m } in
    let started : List (ValType Index) → Option (Machine Index) = λ types. Some (record { now = fresh types below.assigned; frames = frame_of kind meant below ∷ frames }) in
    let took : all_taken cx.items (frame_type cx.items meant).params s ≡ Some below = subst (λ types. all_taken cx.items types s ≡ Some below) p t in
    ap (λ o. option_map (with_block cx.items frames) (option_and_then (λ m. option_map (opened_as kind m) (option_and_then (λ signature. entered_with cx.items signature s) (block_signature cx type))) o)) (sym e)
    ∙ ap (λ o. option_map (with_block cx.items frames) (option_map (opened_as kind meant) (option_and_then (λ signature. entered_with cx.items signature s) o))) (signature_of_meant cx type meant (sym e))
    ∙ ap (λ o. option_map (with_block cx.items frames) (option_map (opened_as kind meant) (option_map made o))) took
    ∙ ap started (sym p)

-- the same after something was taken
pub opened_after : (cx : BodyContext Index) (kind : FrameKind) (type : operators.BlockType ℕ) (meant : operators.BlockType Index) (frames : List (Frame Index)) (o : Option (State Index)) (below : State Index) (params : List (ValType Index))
    → Some meant ≡ block_meant cx type → params ≡ (frame_type cx.items meant).params → option_and_then (all_taken cx.items params) o ≡ Some below
    → option_and_then (opens_from cx kind type frames) o ≡ Some (record { now = fresh params below.assigned; frames = frame_of kind meant below ∷ frames })
opened_after cx kind type meant frames None below params e p t = absurd cc
opened_after cx kind type meant frames (Some s) below params e p t = opened cx kind type meant frames s below params e p t
