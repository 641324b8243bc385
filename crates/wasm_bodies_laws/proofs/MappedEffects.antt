-- The effects of operators on the operands and the locals, over mapped references.
use Rattle.std.proofs.Common.{ℕ, Bool, true, false, ◌≡◌, ◌||◌, List, [], ◌∷◌, map, reverse, length, Option, Some, None, refl, ap, ◌∙◌}
use Rattle.std.proofs.lemmas.List.{length-map}
use Rattle.std.proofs.lemmas.Option.{slice_get-map}
use Rattle.std.specs.List.{list_all, slice_get}
use Rattle.std.specs.Option.{IfSome, option_and_then, option_map}
use Rattle.wasm_bodies.specs.BodyContext.{ModuleItems, BodyContext, Local, provided, is_among, are_below, function_at}
use Rattle.wasm_bodies.specs.Effects.{Labels, leaves, leaves_by_call, accepts, leaves_by_table, stays, jumps_with_last, replaced, chosen, got, assigned_to, effect_of, effect}
use Rattle.wasm_bodies.specs.Operands.{Operand, Known, State, popped, taken, all_taken, put, applied, nothing_known, with_assigned, selected, may_be_ref, non_null}
use Rattle.wasm_bodies.specs.OperatorGates.{is_on}
use Rattle.wasm_bodies.specs.Operators.{Operator, Unreachable, Br, BrIf, BrTable, Return, ReturnCall, ReturnCallIndirect, ReturnCallRef, BrOnNull, BrOnNonNull, Drop, Select, LocalGet, LocalSet, LocalTee, RefIsNull, RefAsNonNull, AnyConvertExtern, ExternConvertAny}
use Rattle.wasm_bodies.specs.Signatures.{call_through, call_of_reference, signature_of}
use Rattle.wasm_bodies_laws.specs.References.{AgreeOn, AreAllWanted, TakesAndGives, AreWantedIn, AreLabelsWanted, Below, items_map, local_map, context_map, operand_map, state_map, labels_map}
use Rattle.wasm_bodies_laws.proofs.HeldOptions.{held_item, all_reverse, then_held}
use Rattle.wasm_bodies_laws.proofs.MappedOperands.{popped_map, selected_is, may_be_ref_is, non_null_is, popped_is, assigned_is, taken_is, all_taken_is, applied_is, converted_is}
use Rattle.wasm_bodies_laws.proofs.MappedOptions.{provided_map, map_map, then_map, is_some_map, all_same, reverse_map}
use Rattle.wasm_bodies_laws.proofs.MappedSignatures.{function_at_is, call_through_is, call_of_reference_is, signature_is}
use Rattle.wasm_bodies_laws.proofs.WantedTypes.{flag_is_on, i32_wanted, function_wanted, through_wanted, of_reference_wanted, signature_wanted}
use Rattle.wasm_spec.specs.Features.{FunctionReferences}
use Rattle.wasm_spec.specs.TypeReferences.{val_map, func_map}
use Rattle.wasm_spec.specs.Types.{Extern, Any, HeapType, ValType, I32, I64, F32, F64, V128, Ref, FuncType}

-- ---- operands of several types, and locals

module _ {R S : Type 0} (f : R → S) where
  replaced_is : (g : Operand R → Option (Operand R)) (q : Operand S → Option (Operand S)) → ((x : Operand R) → q (operand_map f x) ≡ option_map (operand_map f) (g x)) → (s : State R) → replaced q (state_map f s) ≡ option_map (state_map f) (replaced g s)
  replaced_is g q same s =
      rw (popped_is f s)
      (then_map (popped_map f) (state_map f) _ _ (λ p. rw (same p.0) (map_map (operand_map f) (state_map f) _ _ (λ x. refl) (g p.0))) (popped s))

  is_null_is : (x : Operand R) → provided (may_be_ref (operand_map f x)) (Some (Known I32)) ≡ option_map (operand_map f) (provided (may_be_ref x) (Some (Known I32)))
  is_null_is x = rw (may_be_ref_is f x) (provided_map (operand_map f) (may_be_ref x) (Some (Known I32)))

  chosen_is : (s : State R) → chosen (state_map f s) ≡ option_map (state_map f) (chosen s)
  chosen_is s =
      rw (popped_is f s)
      (then_map (popped_map f) (state_map f) _ _ (λ p. rw (popped_is f p.1)
      (then_map (popped_map f) (state_map f) _ _ (λ q. rw (selected_is f q.0 p.0) (map_map (operand_map f) (state_map f) _ _ (λ x. refl) (selected q.0 p.0))) (popped p.1))) (popped s))

  drop_is : (s : State R) → option_map (λ p. p.1) (popped (state_map f s)) ≡ option_map (state_map f) (option_map (λ p. p.1) (popped s))
  drop_is s = rw (popped_is f s) (map_map (popped_map f) (state_map f) _ _ (λ p. refl) (popped s))

  got_is : (index : ℕ) (s : State R) (local : Local R) → got index (state_map f s) (local_map f local) ≡ option_map (state_map f) (got index s local)
  got_is index s local = provided_map (state_map f) (local.is_set || is_among s.assigned index) (Some (put (Known local.type) s))

  label_is : (labels : Labels R) (label : ℕ) → slice_get (labels_map f labels) label ≡ option_map (map (val_map f)) (slice_get labels label)
  label_is labels label = slice_get-map (map (val_map f)) labels label

-- what a reference that may be null leads to, where these types stay
abbrev kept_reference : {R : Type 0} → ModuleItems R → List (ValType R) → State R → Option (State R)
kept_reference items types s = option_and_then (λ p. option_and_then (λ x. option_map (put x) (stays items types p.1)) (non_null p.0)) (popped s)

-- a jump to one of these labels, each of which takes as many operands as these types
abbrev jumped_to : {R : Type 0} → ModuleItems R → Labels R → List ℕ → State R → List (ValType R) → Option (State R)
jumped_to items labels all s types = provided (list_all (λ label. accepts items (length types) s (slice_get labels label)) all) (Some (nothing_known s))

-- ---- what leaves and what may jump, by the premise

module _ {R S : Type 0} (Wanted : ValType R → Type 0) (f : R → S) (items : ModuleItems R) (below : Below S) (agree : AgreeOn Wanted f items below) where
  are_below_is : (types wanted : List (ValType R)) → AreAllWanted Wanted wanted → are_below (items_map f items below) (map (val_map f) types) (map (val_map f) wanted) ≡ are_below items types wanted
  are_below_is [] [] all = refl
  are_below_is [] (b ∷ wanted) all = refl
  are_below_is (a ∷ types) [] all = refl
  are_below_is (a ∷ types) (b ∷ wanted) all = rw (agree a b all.0, are_below_is types wanted all.1)

  leaves_is : (types : List (ValType R)) → AreAllWanted Wanted types → (s : State R) → leaves (items_map f items below) (map (val_map f) types) (state_map f s) ≡ option_map (state_map f) (leaves items types s)
  leaves_is types all s =
      rw (all_taken_is Wanted f items below agree types all s)
      (map_map (state_map f) (state_map f) _ _ (λ m. refl) (all_taken items types s))

  accepts_is : (arity : ℕ) (s : State R) (label : Option (List (ValType R))) → IfSome label (AreAllWanted Wanted) → accepts (items_map f items below) arity (state_map f s) (option_map (map (val_map f)) label) ≡ accepts items arity s label
  accepts_is arity s None all = refl
  accepts_is arity s (Some types) all = rw (length-map types (val_map f), all_taken_is Wanted f items below agree types all s, is_some_map (state_map f) (all_taken items types s))

  accepts_label_is : (labels : Labels R) → AreLabelsWanted Wanted labels → (arity : ℕ) (s : State R) (label : ℕ) → accepts (items_map f items below) arity (state_map f s) (slice_get (labels_map f labels) label) ≡ accepts items arity s (slice_get labels label)
  accepts_label_is labels all arity s label = rw (label_is f labels label) (accepts_is arity s (slice_get labels label) (held_item (AreAllWanted Wanted) labels label all))

  jumped_to_is : (labels : Labels R) → AreLabelsWanted Wanted labels → (all : List ℕ) (s : State R) (types : List (ValType R)) → jumped_to (items_map f items below) (labels_map f labels) all (state_map f s) (map (val_map f) types) ≡ option_map (state_map f) (jumped_to items labels all s types)
  jumped_to_is labels wanted all s types =
      rw (length-map types (val_map f), all_same _ _ (accepts_label_is labels wanted (length types) s) all)
      (provided_map (state_map f) (list_all (λ label. accepts items (length types) s (slice_get labels label)) all) (Some (nothing_known s)))

  by_table_is : (labels : Labels R) → AreLabelsWanted Wanted labels → (others : List ℕ) (default : ℕ) (s : State R) → leaves_by_table (items_map f items below) (labels_map f labels) others default (state_map f s) ≡ option_map (state_map f) (leaves_by_table items labels others default s)
  by_table_is labels wanted others default s =
      ap (option_and_then (jumped_to (items_map f items below) (labels_map f labels) (default ∷ others) (state_map f s))) (label_is f labels default)
      ∙ then_map (map (val_map f)) (state_map f) (jumped_to items labels (default ∷ others) s) _ (jumped_to_is labels wanted (default ∷ others) s) (slice_get labels default)

  stays_is : (types : List (ValType R)) → AreAllWanted Wanted types → (s : State R) → stays (items_map f items below) (map (val_map f) types) (state_map f s) ≡ option_map (state_map f) (stays items types s)
  stays_is types all s = applied_is Wanted f items below agree (record { params = types; results = types }) all s

  -- where a reference is wanted, so is one that may be null
  abbrev WantsNullable : Type 0
  WantsNullable = (nullable : Bool) (heap : HeapType R) → Wanted (Ref nullable heap) → Wanted (Ref true heap)

  with_last_is : WantsNullable → (types : List (ValType R)) → AreAllWanted Wanted types → (s : State R) → jumps_with_last (items_map f items below) (map (val_map f) types) (state_map f s) ≡ option_map (state_map f) (jumps_with_last items types s)
  with_last_is also [] all s = refl
  with_last_is also (I32 ∷ types) all s = refl
  with_last_is also (I64 ∷ types) all s = refl
  with_last_is also (F32 ∷ types) all s = refl
  with_last_is also (F64 ∷ types) all s = refl
  with_last_is also (V128 ∷ types) all s = refl
  with_last_is also (Ref nullable heap ∷ types) all s =
      rw (taken_is Wanted f items below agree (Ref true heap) (also nullable heap all.0) s, reverse_map (val_map f) types)
      (then_map (state_map f) (state_map f) (stays items (reverse types)) _ (stays_is (reverse types) (all_reverse Wanted types all.1)) (taken items (Ref true heap) s))

  assigned_to_is : (index : ℕ) (s : State R) (local : Local R) → Wanted local.type → assigned_to (items_map f items below) index (state_map f s) (local_map f local) ≡ option_map (state_map f) (assigned_to items index s local)
  assigned_to_is index s local one =
      rw (taken_is Wanted f items below agree local.type one s)
      (map_map (state_map f) (state_map f) (with_assigned local index) _ (assigned_is f local index) (taken items local.type s))

  on_null_is : (types : List (ValType R)) → AreAllWanted Wanted types → (s : State R) → kept_reference (items_map f items below) (map (val_map f) types) (state_map f s) ≡ option_map (state_map f) (kept_reference items types s)
  on_null_is types all s =
      rw (popped_is f s)
      (then_map (popped_map f) (state_map f) _ _ (λ p. rw (non_null_is f p.0, stays_is types all p.1)
      (then_map (operand_map f) (state_map f) _ _ (λ x. map_map (state_map f) (state_map f) (put x) _ (λ m. refl) (stays items types p.1)) (non_null p.0))) (popped s))

-- ---- all operators

module _ {R S : Type 0} (Wanted : ValType R → Type 0) (f : R → S) (cx : BodyContext R) (below : Below S) (agree : AgreeOn Wanted f cx.items below) (wanted : AreWantedIn Wanted cx) where
  i32_is : (s : State R) → taken (items_map f cx.items below) I32 (state_map f s) ≡ option_map (state_map f) (taken cx.items I32 s)
  i32_is s = taken_is Wanted f cx.items below agree I32 (i32_wanted Wanted cx.features cx.items wanted.items) s

  by_call_is : (signature : Option (FuncType R)) → IfSome signature (TakesAndGives Wanted) → (s : State R) → leaves_by_call (context_map f cx below) (option_map (func_map f) signature) (state_map f s) ≡ option_map (state_map f) (leaves_by_call cx signature s)
  by_call_is signature all s =
      then_held (TakesAndGives Wanted) (func_map f) (state_map f) _ _
      (λ type both. rw (are_below_is Wanted f cx.items below agree type.results cx.results wanted.results, leaves_is Wanted f cx.items below agree type.params both.0 s)
      (provided_map (state_map f) (are_below cx.items type.results cx.results) (leaves cx.items type.params s))) signature all

  signed_is : (s : State R) (operator : Operator ℕ) → is_on cx.features operator ≡ true → option_and_then (λ signature. applied (items_map f cx.items below) signature (state_map f s)) (signature_of (context_map f cx below) operator) ≡ option_map (state_map f) (option_and_then (λ signature. applied cx.items signature s) (signature_of cx operator))
  signed_is s operator on =
      rw (signature_is Wanted f cx below agree wanted.items operator)
      (then_held (λ type. AreAllWanted Wanted type.params) (func_map f) (state_map f) _ _ (λ type all. applied_is Wanted f cx.items below agree type all s) (signature_of cx operator) (signature_wanted Wanted cx wanted.items operator on))

  effect_of_is : (labels : Labels R) → AreLabelsWanted Wanted labels → (s : State R) (operator : Operator ℕ) → is_on cx.features operator ≡ true → effect_of (context_map f cx below) (labels_map f labels) (state_map f s) operator ≡ option_map (state_map f) (effect_of cx labels s operator)
  effect_of_is labels all s Unreachable on = refl
  effect_of_is labels all s (Br label) on =
      rw (label_is f labels label)
      (then_held (AreAllWanted Wanted) (map (val_map f)) (state_map f) _ _ (λ types each. leaves_is Wanted f cx.items below agree types each s) (slice_get labels label) (held_item (AreAllWanted Wanted) labels label all))
  effect_of_is labels all s (BrIf label) on =
      rw (i32_is s, label_is f labels label)
      (then_map (state_map f) (state_map f) _ _ (λ m. then_held (AreAllWanted Wanted) (map (val_map f)) (state_map f) _ _ (λ types each. stays_is Wanted f cx.items below agree types each m) (slice_get labels label) (held_item (AreAllWanted Wanted) labels label all)) (taken cx.items I32 s))
  effect_of_is labels all s (BrTable others default) on =
      rw (i32_is s)
      (then_map (state_map f) (state_map f) (leaves_by_table cx.items labels others default) _ (by_table_is Wanted f cx.items below agree labels all others default) (taken cx.items I32 s))
  effect_of_is labels all s Return on = leaves_is Wanted f cx.items below agree cx.results wanted.results s
  effect_of_is labels all s (ReturnCall function) on =
      rw (function_at_is f cx.items below function)
      (by_call_is (function_at cx.items function) (function_wanted Wanted cx.features cx.items wanted.items function) s)
  effect_of_is labels all s (ReturnCallIndirect type table) on =
      rw (call_through_is Wanted f cx.features cx.items below agree wanted.items type table)
      (by_call_is (call_through cx.items type table) (through_wanted Wanted cx.features cx.items wanted.items type table) s)
  effect_of_is labels all s (ReturnCallRef type) on =
      rw (call_of_reference_is f cx.items below type)
      (by_call_is (call_of_reference cx.items type) (of_reference_wanted Wanted cx.features cx.items wanted.items (flag_is_on cx.features FunctionReferences on) type) s)
  effect_of_is labels all s (BrOnNull label) on =
      rw (label_is f labels label)
      (then_held (AreAllWanted Wanted) (map (val_map f)) (state_map f) _ _ (λ types each. on_null_is Wanted f cx.items below agree types each s) (slice_get labels label) (held_item (AreAllWanted Wanted) labels label all))
  effect_of_is labels all s (BrOnNonNull label) on =
      let also = wanted.items.nullable (flag_is_on cx.features FunctionReferences on) in
      rw (label_is f labels label)
      (then_held (AreAllWanted Wanted) (map (val_map f)) (state_map f) _ _ (λ types each. rw (reverse_map (val_map f) types) (with_last_is Wanted f cx.items below agree also (reverse types) (all_reverse Wanted types each) s)) (slice_get labels label) (held_item (AreAllWanted Wanted) labels label all))
  effect_of_is labels all s Drop on = drop_is f s
  effect_of_is labels all s Select on = rw (i32_is s) (then_map (state_map f) (state_map f) chosen _ (chosen_is f) (taken cx.items I32 s))
  effect_of_is labels all s (LocalGet local) on =
      rw (slice_get-map (local_map f) cx.locals local) (then_map (local_map f) (state_map f) (got local s) _ (got_is f local s) (slice_get cx.locals local))
  effect_of_is labels all s (LocalSet local) on =
      rw (slice_get-map (local_map f) cx.locals local)
      (then_held (λ l. Wanted l.type) (local_map f) (state_map f) (assigned_to cx.items local s) _ (assigned_to_is Wanted f cx.items below agree local s) (slice_get cx.locals local) (held_item _ cx.locals local wanted.locals))
  effect_of_is labels all s (LocalTee local) on =
      rw (slice_get-map (local_map f) cx.locals local)
      (then_held (λ l. Wanted l.type) (local_map f) (state_map f) _ _ (λ l one. rw (assigned_to_is Wanted f cx.items below agree local s l one) (map_map (state_map f) (state_map f) _ _ (λ m. refl) (assigned_to cx.items local s l))) (slice_get cx.locals local) (held_item _ cx.locals local wanted.locals))
  effect_of_is labels all s RefIsNull on = replaced_is f _ _ (is_null_is f) s
  effect_of_is labels all s RefAsNonNull on = replaced_is f _ _ (non_null_is f) s
  effect_of_is labels all s AnyConvertExtern on = replaced_is f _ _ (converted_is Wanted f cx.items below agree Extern Any (wanted.items.abstract_references Extern)) s
  effect_of_is labels all s ExternConvertAny on = replaced_is f _ _ (converted_is Wanted f cx.items below agree Any Extern (wanted.items.abstract_references Any)) s
  effect_of_is labels all s operator on = signed_is s operator on

  -- where the features have the operator, and else nothing comes after it
  gated_is : (labels : Labels R) → AreLabelsWanted Wanted labels → (s : State R) (operator : Operator ℕ) (on : Bool) → is_on cx.features operator ≡ on → provided on (effect_of (context_map f cx below) (labels_map f labels) (state_map f s) operator) ≡ option_map (state_map f) (provided on (effect_of cx labels s operator))
  gated_is labels all s operator true on = effect_of_is labels all s operator on
  gated_is labels all s operator false on = refl

  pub effect_is : (labels : Labels R) → AreLabelsWanted Wanted labels → (s : State R) (operator : Operator ℕ) → effect (context_map f cx below) (labels_map f labels) (state_map f s) operator ≡ option_map (state_map f) (effect cx labels s operator)
  effect_is labels all s operator = gated_is labels all s operator (is_on cx.features operator) refl
