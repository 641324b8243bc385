-- Blocks without types, opened and closed.
use Rattle.std.proofs.Common.{◌≡◌, ◌≢◌, ℕ, ◌<◌, Bool, true, false, List, [], ◌∷◌, length, drop, take, Some, Ok, refl, sym, ap, subst}
use Rattle.std.specs.Prelude.{slice_get}
use Rattle.std.specs.Bool.{OnFalse, OnTrue}
use Rattle.std.specs.Option.{option_map}
use Rattle.wasm_bodies.specs.BodyContext.{BodyContext, ModuleItems}
use Rattle.wasm_bodies.specs.Operands.{Known, Operand, State, given, taken}
use Rattle.wasm_bodies.specs.Operators.{BlockType, Empty, Operator, Else, End, If}
use Rattle.wasm_core_read.proofs.Forms.{some_is}
use Rattle.wasm_core_read.specs.Reading.{byte_at}
use Rattle.wasm_bodies_laws.specs.Machine.{FrameKind, BlockFrame, LoopFrame, IfFrame, ElseFrame, Frame, Machine, frame_of, is_structural, stepped, stepped_in}
use Rattle.wasm_spec.specs.Features.{Features}
use Rattle.wasm_spec.specs.Types.{I32}
use Rattle.wasmparser_operators.specs.OperatorReading.{All, OfBlock, block_type_at}
use Rattle.wasmparser_bodies.specs.StackChanges.{entered_by, left_with, lowered}
use Rattle.wasmparser_bodies.specs.StackViews.{block_seen}
use Rattle.wasmparser_types.specs.Index.{Index}
use Rattle.wasmparser_func_validator.specs.Plain.{IsCoded, TriesBare, TriesBlock}
use Rattle.wasmparser_func_validator.specs.Steps.{Steps, opened_if, opens}
use Rattle.wasmparser_func_validator.proofs.PlainCodes.{end_coded, if_coded}
use Rattle.wasmparser_func_validator.proofs.PlainLaws.{block_tried, ended_inside}
use Rattle.wasmparser_func_validator.proofs.Stepping.{in_if}

pub empty_reads : (features : Features) (rest : List ℕ) → block_type_at All features (64 ∷ rest) ≡ Some (Empty, rest)
unfolding block_type_at byte_at
empty_reads features rest = refl

-- what is entered is what opening leads to
opens_empty : (cx : BodyContext Index) (kind : FrameKind) (old new : Machine Index) → new ≡ entered_by kind Empty 0 [] old → opens cx kind Empty old ≡ Some new
opens_empty cx kind old new e = ap (λ m. Some m) (sym e)

pub empty_opened : (cx : BodyContext Index) (old new : Machine Index) (code : ℕ) (kind : FrameKind) (make : BlockType ℕ → Operator ℕ) (b : Bool) → IsCoded code (OfBlock make) → is_structural (make Empty) ≡ true → make Empty ≢ End → make Empty ≢ Else
    → (Steps (opens cx kind Empty old) old new (Ok tt) → Steps (stepped cx old (make Empty)) old new (Ok tt)) → OnTrue b (new ≡ entered_by kind Empty 0 [] old) → OnFalse b (new ≡ old) → TriesBlock cx old new code Empty b
empty_opened cx old new code kind make true coded is not_end not_else steps ok full = block_tried cx old new code Empty make (Ok tt) true coded is not_end not_else refl (steps (opens_empty cx kind old new ok))
empty_opened cx old new code kind make false coded is not_end not_else steps ok full = full

condition_taken : (items : ModuleItems Index) (s : State Index) → items.is_below I32 I32 ≡ true → take 1 s.known ≡ Known I32 ∷ [] → taken items I32 s ≡ Some (lowered 1 s)
condition_taken items s itself e = by_known s.known e
  where
    by_known : (known : List (Operand Index)) → take 1 known ≡ Known I32 ∷ [] → taken items I32 (record s { known = known }) ≡ Some (record s { known = drop 1 known })
    by_known [] h = absurd (cc h)
    by_known (x ∷ known) h =
        let head : x ≡ Known I32 = cc h in
        rw (head, itself) refl

pub empty_if_opened : (cx : BodyContext Index) (old new : Machine Index) (b : Bool) → old.frames ≢ [] → cx.items.is_below I32 I32 ≡ true → take 1 old.now.known ≡ Known I32 ∷ [] → OnTrue b (new ≡ entered_by IfFrame Empty 1 [] old) → OnFalse b (new ≡ old) → TriesBlock cx old new 4 Empty b
empty_if_opened cx old new true inside itself known ok full =
    let opened : opened_if cx Empty old ≡ Some new = rw (condition_taken cx.items old.now itself known) (ap (λ m. Some m) (sym ok)) in
    block_tried cx old new 4 Empty (λ type. If type) (Ok tt) true if_coded refl (λ e. absurd cc) (λ e. absurd cc) refl (in_if cx old new Empty (Ok tt) inside refl opened)
empty_if_opened cx old new false inside itself known ok full = full

-- a list without operands ends a block without types
ends_empty : (cx : BodyContext Index) (kind : FrameKind) (below : State Index) (frames : List (Frame Index)) (s : State Index) → s.known ≡ [] → stepped_in cx (frame_of kind Empty below ∷ frames) s End ≡ Some (record { now = given [] below; frames = frames })
ends_empty cx BlockFrame below frames s e = rw e refl
ends_empty cx LoopFrame below frames s e = rw e refl
ends_empty cx IfFrame below frames s e = rw e refl
ends_empty cx ElseFrame below frames s e = rw e refl

pub empty_closed : (cx : BodyContext Index) (old new : Machine Index) (kind : FrameKind) → Some (kind, Empty) ≡ option_map block_seen (slice_get old.frames 0) → old.now.known ≡ [] → 1 < length old.frames → new ≡ left_with [] old → TriesBare cx old new 11 true
empty_closed cx old new kind e none more is =
    let leads = by_frames old.frames refl e in
    (End, end_coded, (leads, ended_inside cx old new more leads))
  where
    by_frames : (frames : List (Frame Index)) → old.frames ≡ frames → Some (kind, Empty) ≡ option_map block_seen (slice_get frames 0) → stepped cx old End ≡ Some new
    by_frames [] at h = absurd cc
    by_frames (f ∷ frames) at h =
        let type : f.block_type ≡ Empty = sym (ap (λ (p : FrameKind × BlockType Index). p.1) (some_is (kind, Empty) (f.kind, f.block_type) h)) in
        let same : f ≡ frame_of f.kind Empty f.below = ap (λ t. frame_of f.kind t f.below) type in
        rw (is, at) (subst (λ (x : Frame Index). stepped_in cx (x ∷ frames) old.now End ≡ Some (record { now = given [] f.below; frames = frames })) (sym same) (ends_empty cx f.kind f.below frames old.now none))
