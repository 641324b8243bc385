-- What each operator that holds no inner list does to the operands and the locals. Core Specification 3.0, Validation, "Instructions". One that
-- has a signature takes and gives what this says; the others are those whose types depend on labels, on the function, on locals or on the operands.
use Rattle.std.specs.Prelude.{ℕ, Bool, true, false, ◌&&◌, ◌||◌, List, ◌∷◌, length, reverse, nat_eq, Option, Some, None, is_some, option_map, slice_get}
use Rattle.std.specs.List.{list_all}
use Rattle.std.specs.Option.{option_and_then}
use Rattle.wasm_bodies.specs.BodyContext.{BodyContext, ModuleItems, Local, provided, is_among, are_below, function_at}
use Rattle.wasm_bodies.specs.Operands.{Operand, Known, State, popped, taken, all_taken, put, applied, nothing_known, with_assigned, selected, may_be_ref, non_null, converted}
use Rattle.wasm_bodies.specs.OperatorGates.{is_on}
use Rattle.wasm_bodies.specs.Operators.{Operator, Unreachable, Br, BrIf, BrTable, Return, ReturnCall, ReturnCallIndirect, ReturnCallRef, BrOnNull, BrOnNonNull, Drop, Select, LocalGet, LocalSet, LocalTee, RefIsNull, RefAsNonNull, AnyConvertExtern, ExternConvertAny}
use Rattle.wasm_bodies.specs.Signatures.{call_through, call_of_reference, signature_of}
use Rattle.wasm_spec.specs.Types.{Extern, Any, ValType, I32, Ref, FuncType}

-- what each open block's label takes, the innermost first, the body's own one last
abbrev pub Labels : Type 0 → Type 0
Labels R = List (List (ValType R))

-- ---- what never goes on

-- these operands are taken, and the operators after it are never reached
abbrev pub leaves : {R : Type 0} → ModuleItems R → List (ValType R) → State R → Option (State R)
leaves items types s = option_map nothing_known (all_taken items types s)

-- a call in place of a return: what it gives serves as what the function gives
abbrev pub leaves_by_call : {R : Type 0} → BodyContext R → Option (FuncType R) → State R → Option (State R)
leaves_by_call cx signature s = option_and_then (λ type. provided (are_below cx.items type.results cx.results) (leaves cx.items type.params s)) signature

-- a label takes so many operands, and these may be them
abbrev pub accepts : {R : Type 0} → ModuleItems R → ℕ → State R → Option (List (ValType R)) → Bool
accepts items arity s None = false
accepts items arity s (Some types) = nat_eq (length types) arity && is_some (all_taken items types s)

-- one of several labels of one arity is jumped to
abbrev pub leaves_by_table : {R : Type 0} → ModuleItems R → Labels R → List ℕ → ℕ → State R → Option (State R)
leaves_by_table items labels others default s =
    option_and_then (λ types. provided (list_all (λ label. accepts items (length types) s (slice_get labels label)) (default ∷ others)) (Some (nothing_known s)))
    (slice_get labels default)

-- ---- what may jump

-- these operands stay where they are, if no jump is made, as operands of these types
abbrev pub stays : {R : Type 0} → ModuleItems R → List (ValType R) → State R → Option (State R)
stays items types s = applied items (record { params = types; results = types }) s

-- The label takes these types, the last one first. A reference that isn't null goes there with the others; the others stay.
abbrev pub jumps_with_last : {R : Type 0} → ModuleItems R → List (ValType R) → State R → Option (State R)
jumps_with_last items (Ref nullable heap ∷ types) s = option_and_then (stays items (reverse types)) (taken items (Ref true heap) s)
jumps_with_last items _ s = None

-- ---- operands of several types

-- the last operand is replaced
abbrev pub replaced : {R : Type 0} → (Operand R → Option (Operand R)) → State R → Option (State R)
replaced f s = option_and_then (λ p. option_map (λ x. put x p.1) (f p.0)) (popped s)

abbrev pub chosen : {R : Type 0} → State R → Option (State R)
chosen s = option_and_then (λ p. option_and_then (λ q. option_map (λ x. put x q.1) (selected q.0 p.0)) (popped p.1)) (popped s)

-- ---- locals

-- a local that has a value from the start, or was assigned
abbrev pub got : {R : Type 0} → ℕ → State R → Local R → Option (State R)
got index s local = provided (local.is_set || is_among s.assigned index) (Some (put (Known local.type) s))

abbrev pub assigned_to : {R : Type 0} → ModuleItems R → ℕ → State R → Local R → Option (State R)
assigned_to items index s local = option_map (with_assigned local index) (taken items local.type s)

-- ---- all operators

abbrev pub effect_of : {R : Type 0} → BodyContext R → Labels R → State R → Operator ℕ → Option (State R)
effect_of cx labels s Unreachable = Some (nothing_known s)
effect_of cx labels s (Br label) = option_and_then (λ types. leaves cx.items types s) (slice_get labels label)
effect_of cx labels s (BrIf label) = option_and_then (λ m. option_and_then (λ types. stays cx.items types m) (slice_get labels label)) (taken cx.items I32 s)
effect_of cx labels s (BrTable others default) = option_and_then (leaves_by_table cx.items labels others default) (taken cx.items I32 s)
effect_of cx labels s Return = leaves cx.items cx.results s
effect_of cx labels s (ReturnCall function) = leaves_by_call cx (function_at cx.items function) s
effect_of cx labels s (ReturnCallIndirect type table) = leaves_by_call cx (call_through cx.items type table) s
effect_of cx labels s (ReturnCallRef type) = leaves_by_call cx (call_of_reference cx.items type) s
-- a null reference is dropped and the others go to the label; else all stay
effect_of cx labels s (BrOnNull label) =
    option_and_then (λ types. option_and_then (λ p. option_and_then (λ x. option_map (put x) (stays cx.items types p.1)) (non_null p.0)) (popped s)) (slice_get labels label)
effect_of cx labels s (BrOnNonNull label) = option_and_then (λ types. jumps_with_last cx.items (reverse types) s) (slice_get labels label)
effect_of cx labels s Drop = option_map (λ p. p.1) (popped s)
effect_of cx labels s Select = option_and_then chosen (taken cx.items I32 s)
effect_of cx labels s (LocalGet local) = option_and_then (got local s) (slice_get cx.locals local)
effect_of cx labels s (LocalSet local) = option_and_then (assigned_to cx.items local s) (slice_get cx.locals local)
effect_of cx labels s (LocalTee local) = option_and_then (λ l. option_map (put (Known l.type)) (assigned_to cx.items local s l)) (slice_get cx.locals local)
effect_of cx labels s RefIsNull = replaced (λ x. provided (may_be_ref x) (Some (Known I32))) s
effect_of cx labels s RefAsNonNull = replaced non_null s
effect_of cx labels s AnyConvertExtern = replaced (converted cx.items Extern Any) s
effect_of cx labels s ExternConvertAny = replaced (converted cx.items Any Extern) s
-- operators with a signature; what opens, parts or ends a block has none
effect_of cx labels s operator = option_and_then (λ signature. applied cx.items signature s) (signature_of cx operator)

-- the state after an operator that holds no inner list, if it may come there
abbrev pub effect : {R : Type 0} → BodyContext R → Labels R → State R → Operator ℕ → Option (State R)
effect cx labels s operator = provided (is_on cx.features operator) (effect_of cx labels s operator)
