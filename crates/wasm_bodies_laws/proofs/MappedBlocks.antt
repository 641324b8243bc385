-- Blocks and the judgement on code, over mapped references.
use Rattle.std.proofs.Common.{ℕ, ◌≡◌, List, ◌∷◌, map, Option, Some, None, refl, ap, ◌∙◌}
use Rattle.std.proofs.lemmas.List.{length-map}
use Rattle.std.specs.Option.{option_and_then, option_map}
use Rattle.wasm_bodies.specs.BodyContext.{BodyContext, provided, written}
use Rattle.wasm_bodies.specs.Bodies.{Code, done, simple, block, loop, if_then, if_else, Entered, block_signature, entered_with, entered, start_of, after_block, is_used_up, is_exactly}
use Rattle.wasm_bodies.specs.Effects.{Labels, effect}
use Rattle.wasm_bodies.specs.OperatorGates.{is_on}
use Rattle.wasm_bodies.specs.Operands.{State, taken, all_taken}
use Rattle.wasm_bodies.specs.Operators.{BlockType, Empty, Value, Indexed, Operator, Block, Loop, If}
use Rattle.wasm_bodies.specs.Signatures.{gives_one}
use Rattle.wasm_bodies.proofs.Judging.{judge}
use Rattle.wasm_bodies_laws.specs.References.{AgreeOn, AreAllWanted, TakesAndGives, AreWanted, AreWantedIn, AreLabelsWanted, Below, items_map, context_map, operand_map, state_map, labels_map, entered_map}
use Rattle.wasm_bodies_laws.proofs.HeldOptions.{then_held}
use Rattle.wasm_bodies_laws.proofs.MappedEffects.{effect_is}
use Rattle.wasm_bodies_laws.proofs.MappedOperands.{given_is, fresh_is, taken_is, all_taken_is}
use Rattle.wasm_bodies_laws.proofs.MappedOptions.{provided_map, map_map, then_map}
use Rattle.wasm_bodies_laws.proofs.MappedSignatures.{written_is, func_at_is}
use Rattle.wasm_bodies_laws.proofs.WantedTypes.{i32_wanted, block_wanted, entered_wanted, if_entered_wanted}
use Rattle.wasm_spec.specs.TypeReferences.{val_map, func_map}
use Rattle.wasm_spec.specs.Types.{ValType, I32, FuncType}

-- what comes next where a list ends with exactly these types, as `judge` has it
abbrev ended : {R A : Type 0} → BodyContext R → List (ValType R) → Option (State R) → Option A → Option A
ended cx types None next = None
ended cx types (Some e) next = provided (is_exactly cx.items types e) next

-- ---- blocks

module _ {R S : Type 0} (f : R → S) where
  pub start_is : (b : Entered R) → start_of (entered_map f b) ≡ state_map f (start_of b)
  start_is b = fresh_is f b.signature.params b.below.assigned

  pub after_is : (b : Entered R) → after_block (entered_map f b) ≡ state_map f (after_block b)
  after_is b = given_is f b.signature.results b.below

  is_used_up_is : (o : Option (State R)) → is_used_up (option_map (state_map f) o) ≡ is_used_up o
  is_used_up_is None = refl
  is_used_up_is (Some s) = rw (length-map s.known (operand_map f))

module _ {R S : Type 0} (f : R → S) (cx : BodyContext R) (below : Below S) where
  block_signature_is : (type : BlockType ℕ) → block_signature (context_map f cx below) type ≡ option_map (func_map f) (block_signature cx type)
  block_signature_is Empty = refl
  block_signature_is (Value type) =
      rw (written_is f cx.items below cx.features type) (map_map (val_map f) (func_map f) gives_one _ (λ t. refl) (written cx.features cx.items type))
  block_signature_is (Indexed index) = func_at_is f cx.items below index

module _ {R S : Type 0} (Wanted : ValType R → Type 0) (f : R → S) (cx : BodyContext R) (below : Below S) (agree : AgreeOn Wanted f cx.items below) where
  pub exactly_is : (types : List (ValType R)) → AreAllWanted Wanted types → (s : State R) → is_exactly (items_map f cx.items below) (map (val_map f) types) (state_map f s) ≡ is_exactly cx.items types s
  exactly_is types all s = rw (all_taken_is Wanted f cx.items below agree types all s) (is_used_up_is f (all_taken cx.items types s))

  entered_with_is : (s : State R) (signature : FuncType R) → TakesAndGives Wanted signature → entered_with (items_map f cx.items below) (func_map f signature) (state_map f s) ≡ option_map (entered_map f) (entered_with cx.items signature s)
  entered_with_is s signature both =
      rw (all_taken_is Wanted f cx.items below agree signature.params both.0 s)
      (map_map (state_map f) (entered_map f) _ _ (λ m. refl) (all_taken cx.items signature.params s))

  ended_is : (types : List (ValType R)) → AreAllWanted Wanted types → (o next : Option (State R)) → ended (context_map f cx below) (map (val_map f) types) (option_map (state_map f) o) (option_map (state_map f) next) ≡ option_map (state_map f) (ended cx types o next)
  ended_is types all None next = refl
  ended_is types all (Some e) next = rw (exactly_is types all e) (provided_map (state_map f) (is_exactly cx.items types e) next)

module _ {R S : Type 0} (Wanted : ValType R → Type 0) (f : R → S) (cx : BodyContext R) (below : Below S) (agree : AgreeOn Wanted f cx.items below) (wanted : AreWanted Wanted cx.features cx.items) where
  pub entered_is : (operator : Operator ℕ) (type : BlockType ℕ) (s : State R) → entered (context_map f cx below) operator type (state_map f s) ≡ option_map (entered_map f) (entered cx operator type s)
  entered_is operator type s =
      rw (block_signature_is f cx below type)
      (ap (provided (is_on cx.features operator)) (then_held (TakesAndGives Wanted) (func_map f) (entered_map f) _ _ (entered_with_is Wanted f cx below agree s) (block_signature cx type) (block_wanted Wanted cx wanted type))
      ∙ provided_map (entered_map f) (is_on cx.features operator) (option_and_then (λ signature. entered_with cx.items signature s) (block_signature cx type)))

  pub if_entered_is : (type : BlockType ℕ) (s : State R) → option_and_then (entered (context_map f cx below) (If type) type) (taken (items_map f cx.items below) I32 (state_map f s)) ≡ option_map (entered_map f) (option_and_then (entered cx (If type) type) (taken cx.items I32 s))
  if_entered_is type s =
      rw (taken_is Wanted f cx.items below agree I32 (i32_wanted Wanted cx.features cx.items wanted) s)
      (then_map (state_map f) (entered_map f) (entered cx (If type) type) _ (entered_is (If type) type) (taken cx.items I32 s))

-- ---- code

module _ {R S : Type 0} (Wanted : ValType R → Type 0) (f : R → S) (cx : BodyContext R) (below : Below S) (agree : AgreeOn Wanted f cx.items below) (wanted : AreWantedIn Wanted cx) where
  pub judge_is : (code : Code) (labels : Labels R) → AreLabelsWanted Wanted labels → (s : State R) → judge (context_map f cx below) (labels_map f labels) (state_map f s) code ≡ option_map (state_map f) (judge cx labels s code)
  judge_is done labels all s = refl
  judge_is (simple operator rest) labels all s =
      rw (effect_is Wanted f cx below agree wanted labels all s operator)
      (then_map (state_map f) (state_map f) _ _ (judge_is rest labels all) (effect cx labels s operator))
  judge_is (block type inner rest) labels all s =
      rw (entered_is Wanted f cx below agree wanted.items (Block type) type s)
      (then_held (λ b. TakesAndGives Wanted b.signature) (entered_map f) (state_map f) _ _ (λ b both. rw (start_is f b, after_is f b, judge_is inner (b.signature.results ∷ labels) (both.1, all) (start_of b), judge_is rest labels all (after_block b))
      (ended_is Wanted f cx below agree b.signature.results both.1 (judge cx (b.signature.results ∷ labels) (start_of b) inner) (judge cx labels (after_block b) rest))) (entered cx (Block type) type s) (entered_wanted Wanted cx wanted.items (Block type) type s))
  judge_is (loop type inner rest) labels all s =
      rw (entered_is Wanted f cx below agree wanted.items (Loop type) type s)
      (then_held (λ b. TakesAndGives Wanted b.signature) (entered_map f) (state_map f) _ _ (λ b both. rw (start_is f b, after_is f b, judge_is inner (b.signature.params ∷ labels) (both.0, all) (start_of b), judge_is rest labels all (after_block b))
      (ended_is Wanted f cx below agree b.signature.results both.1 (judge cx (b.signature.params ∷ labels) (start_of b) inner) (judge cx labels (after_block b) rest))) (entered cx (Loop type) type s) (entered_wanted Wanted cx wanted.items (Loop type) type s))
  judge_is (if_then type inner rest) labels all s =
      rw (if_entered_is Wanted f cx below agree wanted.items type s)
      (then_held (λ b. TakesAndGives Wanted b.signature) (entered_map f) (state_map f) _ _ (λ b both. rw (start_is f b, after_is f b, judge_is inner (b.signature.results ∷ labels) (both.1, all) (start_of b), judge_is rest labels all (after_block b), ended_is Wanted f cx below agree b.signature.results both.1 (Some (start_of b)) (judge cx labels (after_block b) rest))
      (ended_is Wanted f cx below agree b.signature.results both.1 (judge cx (b.signature.results ∷ labels) (start_of b) inner) (ended cx b.signature.results (Some (start_of b)) (judge cx labels (after_block b) rest)))) (option_and_then (entered cx (If type) type) (taken cx.items I32 s)) (if_entered_wanted Wanted cx wanted.items type s))
  judge_is (if_else type inner other rest) labels all s =
      rw (if_entered_is Wanted f cx below agree wanted.items type s)
      (then_held (λ b. TakesAndGives Wanted b.signature) (entered_map f) (state_map f) _ _ (λ b both. rw (start_is f b, after_is f b, judge_is inner (b.signature.results ∷ labels) (both.1, all) (start_of b), judge_is other (b.signature.results ∷ labels) (both.1, all) (start_of b), judge_is rest labels all (after_block b), ended_is Wanted f cx below agree b.signature.results both.1 (judge cx (b.signature.results ∷ labels) (start_of b) other) (judge cx labels (after_block b) rest))
      (ended_is Wanted f cx below agree b.signature.results both.1 (judge cx (b.signature.results ∷ labels) (start_of b) inner) (ended cx b.signature.results (judge cx (b.signature.results ∷ labels) (start_of b) other) (judge cx labels (after_block b) rest)))) (option_and_then (entered cx (If type) type) (taken cx.items I32 s)) (if_entered_wanted Wanted cx wanted.items type s))
