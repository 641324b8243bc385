-- Constants that are drawn give values of their types.
use Rattle.std.specs.Prelude.{◌↔◌, IsTrue}
use Rattle.std.proofs.Common.{◌≡◌, ℤ, ℕ, Bool, true, false, ◌||◌, List, [], ◌∷◌, length, refl, subst, ◌∙◌, nat_lt, Some, slice_get, if◌then◌else◌}
use Rattle.std.proofs.lemmas.Bool.{ltb-true}
use Rattle.wasm_spec.specs.Constants.{I32Const, I64Const, RefFunc, GlobalGet, ConstantExpression}
use Rattle.wasm_spec.specs.Features.{Features, has, ReferenceTypes, ExtendedConst, Gc}
use Rattle.wasm_spec.specs.Subtyping.{same}
use Rattle.wasm_spec.specs.Types.{Concrete, ValType, I32, I64, F32, F64, V128, Ref, SubType, GlobalType}
use Rattle.wasm_spec.proofs.Places.{get_left}
use Rattle.wasm_smith_config.specs.declared.config.Config.{Config}
use Rattle.wasm_smith_definitions.specs.Items.{on_i32, on_i64}
use Rattle.wasm_smith_definitions.specs.declared.constant.Operation.{Operation}
use Rattle.wasm_smith_definitions.specs.declared.constant.Operation.TheVariants.{Add, Sub, Mul}
use Rattle.wasm_smith_validity.specs.ValidGroups.{AllKeepTypeRules}
use Rattle.wasm_smith_validity.specs.Constants.{IsBelow, IsOperation, Scope, scope}
use Rattle.wasm_smith_validity.specs.Spaces.{Spaces, functions_of, globals_of, is_value}
use Rattle.wasm_smith_definitions.specs.Constants.{MayWrite, Gives, IsPlain, IsOnIntegers}

itself : (types : List (SubType ℕ)) (type : ValType ℕ) → IsBelow types type type
itself types I32 = tt
itself types I64 = tt
itself types F32 = tt
itself types F64 = tt
itself types V128 = tt
itself types (Ref nullable heap) = record { null = λ e. e; heap = same }

pub plain_gives : (c : Config) (k : Spaces) (type : ValType ℕ) (e : ConstantExpression) → MayWrite c k type → IsPlain type e → Gives c k type e
plain_gives c k I32 e w h features f = rw h.1 tt
plain_gives c k I64 e w h features f = rw h.1 tt
plain_gives c k F32 e w h features f = rw (h.1, w features f) tt
plain_gives c k F64 e w h features f = rw (h.1, w features f) tt
plain_gives c k V128 e w h features f = rw (h.1, w features f) tt
plain_gives c k (Ref nullable heap) e w h features f =
    let written : is_value features k.types (Ref true heap) ≡ true = rw h.0 at (w features f) in
    rw (h.1, h.0, written) (itself k.types (Ref true heap))

i32_operation : (features : Features) (s : Scope) (a b : ℤ) (operation : Operation) → has features ExtendedConst ≡ true
    → IsOperation features s I32 (I32Const a) (I32Const b) (on_i32 operation)
i32_operation features s a b Add on = record { on = on; makes = refl; first = refl; second = refl }
i32_operation features s a b Sub on = record { on = on; makes = refl; first = refl; second = refl }
i32_operation features s a b Mul on = record { on = on; makes = refl; first = refl; second = refl }

i64_operation : (features : Features) (s : Scope) (a b : ℤ) (operation : Operation) → has features ExtendedConst ≡ true
    → IsOperation features s I64 (I64Const a) (I64Const b) (on_i64 operation)
i64_operation features s a b Add on = record { on = on; makes = refl; first = refl; second = refl }
i64_operation features s a b Sub on = record { on = on; makes = refl; first = refl; second = refl }
i64_operation features s a b Mul on = record { on = on; makes = refl; first = refl; second = refl }

pub operation_gives : (c : Config) (k : Spaces) (type : ValType ℕ) (e : ConstantExpression) → c.extended_const_enabled ≡ true → IsOnIntegers type e → Gives c k type e
operation_gives c k I32 e on h features f = rw h.3 (i32_operation features (scope features k) h.0 h.1 h.2 (f ExtendedConst ∙ on))
operation_gives c k I64 e on h features f = rw h.3 (i64_operation features (scope features k) h.0 h.1 h.2 (f ExtendedConst ∙ on))
operation_gives c k F32 e on h features f = absurd h
operation_gives c k F64 e on h features f = absurd h
operation_gives c k V128 e on h features f = absurd h
operation_gives c k (Ref nullable heap) e on h features f = absurd h

or_false : (b : Bool) → (b || false) ≡ b
or_false true = refl
or_false false = refl

-- a visible global is among those that an expression sees
among_seen : (k : Spaces) (global : ℕ) (type : GlobalType ℕ) (gc : Bool) → slice_get (globals_of k) global ≡ Some type → (nat_lt global (length k.imported_globals) || gc) ≡ true
    → slice_get (if gc then globals_of k else k.imported_globals) global ≡ Some type
among_seen k global type true at visible = at
among_seen k global type false at visible =
    let imported : nat_lt global (length k.imported_globals) ≡ true = rw (or_false (nat_lt global (length k.imported_globals))) at visible in
    rw (get_left k.imported_globals k.own_globals global (ltb-true global (length k.imported_globals) imported)) at at

pub global_gives : (c : Config) (k : Spaces) (wanted : ValType ℕ) (global : ℕ) (type : GlobalType ℕ) → slice_get (globals_of k) global ≡ Some type
    → (nat_lt global (length k.imported_globals) || c.gc_enabled) ≡ true → type.mutable ≡ false → IsBelow k.types type.value_type wanted → Gives c k wanted (GlobalGet global ∷ [])
global_gives c k wanted global type at visible fixed below features f =
    let there : slice_get (if has features Gc then globals_of k else k.imported_globals) global ≡ Some type = rw (f Gc) (among_seen k global type c.gc_enabled at visible) in
    rw (there, fixed) below

pub function_gives : (c : Config) (k : Spaces) (wanted : ValType ℕ) (function index : ℕ) → slice_get (functions_of k) function ≡ Some index → c.reference_types_enabled ≡ true
    → IsBelow k.types (Ref false (Concrete index)) wanted → Gives c k wanted (RefFunc function ∷ [])
function_gives c k wanted function index at on below features f = rw (f ReferenceTypes, on, at) below

-- the test of subtyping, over the types of the spaces
pub below_now : (types now : List (SubType ℕ)) (a b : ValType ℕ) (r : Bool) → types ≡ now → (AllKeepTypeRules types → (IsTrue r ↔ IsBelow types a b)) → AllKeepTypeRules now → IsTrue r → IsBelow now a b
below_now types now a b r e h rules holds = (subst (λ t. AllKeepTypeRules t → (IsTrue r ↔ IsBelow t a b)) e h rules).0 holds
