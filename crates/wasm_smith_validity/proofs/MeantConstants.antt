-- Constant expressions by index, in the context that is meant.
use Rattle.std.proofs.Common.{◌≡◌, ℕ, ◌≤◌, Bool, true, false, ◌||◌, nat_lt, List, [], ◌∷◌, ◌++◌, length, option_map, refl, ap, sym, ◌∙◌, inl, inr, Some, None, Option, arith, subst, if◌then◌else◌}
use Rattle.std.specs.List.{slice_get}
use Rattle.std.proofs.lemmas.Bool.{lt-ltb}
use Rattle.std.proofs.lemmas.List.{append-nil}
use Rattle.wasm_spec.specs.Constants.{ConstantOperator, I32Const, I64Const, F32Const, F64Const, V128Const, RefNull, RefFunc, GlobalGet, I32Add, I32Sub, I32Mul, I64Add, I64Sub, I64Mul, ConstantExpression}
use Rattle.wasm_spec.specs.Features.{Features, has, ReferenceTypes, Simd, Floats, ExtendedConst, Gc}
use Rattle.wasm_spec.specs.Subtyping.{ValBelow}
use Rattle.wasm_spec.specs.Trees.{type_at, unrolled}
use Rattle.wasm_spec.specs.TypeReferences.{val_map}
use Rattle.wasm_spec.specs.Types.{Concrete, ValType, I32, I64, F32, F64, V128, Ref, GlobalType, SubType}
use Rattle.wasm_spec.proofs.GroupTrees.{Stand}
use Rattle.wasm_spec.proofs.Places.{get_left, get_either}
use Rattle.wasm_validity.specs.ConstantTyping.{puts, puts_for_two, effect, provided, meant, visible_global, IsConstantOf, IsConstantFor}
use Rattle.wasm_validity.specs.Context.{Context, functions_in}
use Rattle.wasm_validity.specs.TypeRules.{is_value as is_value_in}
use Rattle.wasm_smith_validity.specs.Constants.{Scope, scope, imported_scope, constant_global, given, type_of_operation, IsGiven, IsOperation, IsConstant}
use Rattle.wasm_smith_validity.specs.Spaces.{is_value}
use Rattle.wasm_smith_validity.proofs.IndexedContext.{by_index}
use Rattle.wasm_smith_validity.proofs.MeantTypes.{is_named_value, value_as, meant_as, named_of, value_named_below, below_as, there}

-- ---- what an expression sees

-- the scope is what constant expressions see in a context
pub record IsScope (features : Features) (cx : Context) (s : Scope) : Type 0 where
  pub stand : Stand s.types cx.types
  pub functions : functions_in cx ≡ s.functions
  pub globals : (index : ℕ) → visible_global features cx index ≡ constant_global s.globals index

-- a global is visible where it is imported, or all are: there is one
seen : (imported own : List (GlobalType ℕ)) (all : Bool) (index : ℕ)
    → provided (nat_lt index (length imported) || all) (constant_global (imported ++ own) index) ≡ constant_global (if all then imported ++ own else imported) index
seen imported own true index = always (nat_lt index (length imported))
  where
    always : (b : Bool) → provided (b || true) (constant_global (imported ++ own) index) ≡ constant_global (imported ++ own) index
    always true = refl
    always false = refl
seen imported own false index = elim (get_either imported index) [
  | inl at ↦ rw (lt-ltb index (length imported) at.2, get_left imported own index at.2) refl
  | inr at ↦ rw (past index (length imported) (omega (arith, at.1.1)), at.0) refl
]
  where
    past : (index n : ℕ) → n ≤ index → nat_lt index n ≡ false
    past index n h = grind arith

pub is_scope : (features : Features) (types : List (SubType ℕ)) (cx : Context) → Stand types cx.types → IsScope features cx (scope features (by_index types cx))
is_scope features types cx stand = record {
  stand = stand;
  functions = refl;
  globals = seen cx.imported_globals cx.own_globals (has features Gc);
}

-- without globals of the module's own all that are seen are imported
pub is_imported_scope : (features : Features) (types : List (SubType ℕ)) (cx : Context) → Stand types cx.types
    → IsScope features (record cx { own_globals = [] }) (imported_scope (by_index types cx))
is_imported_scope features types cx stand = record {
  stand = stand;
  functions = refl;
  globals = λ index. seen cx.imported_globals [] (has features Gc) index ∙ ap (λ globals. constant_global globals index) (either (has features Gc));
}
  where
    either : (all : Bool) → (if all then cx.imported_globals ++ [] else cx.imported_globals) ≡ cx.imported_globals
    either true = append-nil cx.imported_globals
    either false = refl

-- ---- what is given

some_is : {A : Type 0} {x y : A} → Some x ≡ Some y → x ≡ y
some_is e = cc

provided_is : {A : Type 0} (b : Bool) (o : Option A) (x : A) → provided b o ≡ Some x → (b ≡ true) × (o ≡ Some x)
provided_is true o x e = (refl, e)
provided_is false o x e = absurd cc

mapped_is : {A B : Type 0} (f : A → B) (o : Option A) (y : B) → option_map f o ≡ Some y → (x : A) × (o ≡ Some x) × (f x ≡ y)
mapped_is f None y e = absurd cc
mapped_is f (Some x) y e = (x, refl, some_is e)

-- what an operator does that gives a type: it puts what that type stands for
abbrev Gives : Features → Context → ConstantOperator → ValType ℕ → Type 0
Gives features cx operator type = effect features cx operator ≡ Some (puts (val_map (type_at cx.types) type))

effect_as : (features : Features) (cx : Context) (s : Scope) → IsScope features cx s → (operator : ConstantOperator) (type : ValType ℕ) → given features s operator ≡ Some type
    → is_named_value s.types type ≡ true → Gives features cx operator type
effect_as features cx s h (I32Const value) type e n = subst (Gives features cx (I32Const value)) (some_is e) refl
effect_as features cx s h (I64Const value) type e n = subst (Gives features cx (I64Const value)) (some_is e) refl
effect_as features cx s h (F32Const bits) type e n =
    let p = provided_is (has features Floats) (Some F32) type e in
    subst (Gives features cx (F32Const bits)) (some_is p.1) (rw p.0 refl)
effect_as features cx s h (F64Const bits) type e n =
    let p = provided_is (has features Floats) (Some F64) type e in
    subst (Gives features cx (F64Const bits)) (some_is p.1) (rw p.0 refl)
effect_as features cx s h (V128Const bytes) type e n =
    let p = provided_is (has features Simd) (Some V128) type e in
    subst (Gives features cx (V128Const bytes)) (some_is p.1) (rw p.0 refl)
effect_as features cx s h (RefNull heap) type e n =
    let p = provided_is (is_value features s.types (Ref true heap)) (Some (Ref true heap)) type e in
    let here : meant cx (Ref true heap) ≡ Some (val_map (type_at cx.types) (Ref true heap)) = meant_as s.types cx h.stand (Ref true heap) (named_of features s.types (Ref true heap) p.0) in
    let allowed : is_value_in features cx (Ref true heap) ≡ true = value_as features s.types cx h.stand (Ref true heap) ∙ p.0 in
    let puts_it : provided (is_value_in features cx (Ref true heap)) (option_map puts (meant cx (Ref true heap))) ≡ Some (puts (val_map (type_at cx.types) (Ref true heap))) = rw (allowed, here) refl in
    puts_it ∙ ap (λ t. Some (puts (val_map (type_at cx.types) t))) (some_is p.1)
effect_as features cx s h (RefFunc function) type e n =
    let p = provided_is (has features ReferenceTypes) (option_map (λ type. Ref false (Concrete type)) (slice_get s.functions function)) type e in
    let q = mapped_is (λ type. Ref false (Concrete type)) (slice_get s.functions function) type p.1 in
    let named : nat_lt q.0 (length s.types) ≡ true = rw (sym q.2) at n in
    rw (p.0, h.functions, q.1, there s.types cx.types h.stand q.0 named) (ap (λ t. Some (puts (val_map (type_at cx.types) t))) q.2)
effect_as features cx s h (GlobalGet global) type e n =
    let q = mapped_is (λ g. g.value_type) (constant_global s.globals global) type e in
    let named : is_named_value s.types q.0.value_type ≡ true = rw (sym q.2) at n in
    rw (h.globals global, q.1, meant_as s.types cx h.stand q.0.value_type named) (ap (λ t. Some (puts (val_map (type_at cx.types) t))) q.2)
effect_as features cx s h _ type e n = absurd cc

-- ---- expressions

single_is : (features : Features) (cx : Context) (s : Scope) → IsScope features cx s → (wanted : ValType ℕ) (operator : ConstantOperator) (o : Option (ValType ℕ))
    → given features s operator ≡ o → IsGiven s.types wanted o → is_named_value s.types wanted ≡ true
    → IsConstantOf features cx (val_map (type_at cx.types) wanted) (operator ∷ [])
single_is features cx s h wanted operator None e g n = absurd g
single_is features cx s h wanted operator (Some type) e g n =
    let does = effect_as features cx s h operator type e (value_named_below s.types type wanted g n) in
    rw does (below_as s.types cx.types h.stand type wanted g)

-- what an operation is, by the type that it takes and gives
record Operates (features : Features) (cx : Context) (types : List (SubType ℕ)) (operator : ConstantOperator) (type : ValType ℕ) : Type 0 where
  does : effect features cx operator ≡ Some (puts_for_two (val_map (type_at cx.types) type))
  itself : ValBelow unrolled (val_map (type_at cx.types) type) (val_map (type_at cx.types) type)
  named : is_named_value types type ≡ true

on_i32 : (features : Features) (cx : Context) (types : List (SubType ℕ)) (operator : ConstantOperator) (type : ValType ℕ) → effect features cx operator ≡ Some (puts_for_two I32)
    → Some I32 ≡ Some type → Operates features cx types operator type
on_i32 features cx types operator type does e = subst (Operates features cx types operator) (some_is e) (record { does = does; itself = tt; named = refl })

on_i64 : (features : Features) (cx : Context) (types : List (SubType ℕ)) (operator : ConstantOperator) (type : ValType ℕ) → effect features cx operator ≡ Some (puts_for_two I64)
    → Some I64 ≡ Some type → Operates features cx types operator type
on_i64 features cx types operator type does e = subst (Operates features cx types operator) (some_is e) (record { does = does; itself = tt; named = refl })

operates : (features : Features) (cx : Context) (types : List (SubType ℕ)) (operator : ConstantOperator) (type : ValType ℕ) → has features ExtendedConst ≡ true
    → type_of_operation operator ≡ Some type → Operates features cx types operator type
operates features cx types I32Add type on e = on_i32 features cx types I32Add type (rw on refl) e
operates features cx types I32Sub type on e = on_i32 features cx types I32Sub type (rw on refl) e
operates features cx types I32Mul type on e = on_i32 features cx types I32Mul type (rw on refl) e
operates features cx types I64Add type on e = on_i64 features cx types I64Add type (rw on refl) e
operates features cx types I64Sub type on e = on_i64 features cx types I64Sub type (rw on refl) e
operates features cx types I64Mul type on e = on_i64 features cx types I64Mul type (rw on refl) e
operates features cx types _ type on e = absurd cc

operation_is : (features : Features) (cx : Context) (s : Scope) → IsScope features cx s → (wanted : ValType ℕ) (a b operator : ConstantOperator)
    → IsOperation features s wanted a b operator → IsConstantOf features cx (val_map (type_at cx.types) wanted) (a ∷ b ∷ operator ∷ [])
operation_is features cx s h wanted a b operator g =
    let o = operates features cx s.types operator wanted g.on g.makes in
    rw (effect_as features cx s h a wanted g.first o.named, effect_as features cx s h b wanted g.second o.named, o.does) (o.itself, (o.itself, o.itself))

pub constant_as : (features : Features) (cx : Context) (s : Scope) → IsScope features cx s → (wanted : ValType ℕ) (expression : ConstantExpression)
    → IsConstant features s wanted expression → is_named_value s.types wanted ≡ true → IsConstantOf features cx (val_map (type_at cx.types) wanted) expression
constant_as features cx s h wanted [] g n = absurd g
constant_as features cx s h wanted (operator ∷ []) g n = single_is features cx s h wanted operator (given features s operator) refl g n
constant_as features cx s h wanted (a ∷ b ∷ []) g n = absurd g
constant_as features cx s h wanted (a ∷ b ∷ operator ∷ []) g n = operation_is features cx s h wanted a b operator g
constant_as features cx s h wanted (a ∷ b ∷ c ∷ d ∷ others) g n = absurd g

pub constant_for : (features : Features) (cx : Context) (s : Scope) → IsScope features cx s → (wanted : ValType ℕ) (expression : ConstantExpression)
    → IsConstant features s wanted expression → is_named_value s.types wanted ≡ true → IsConstantFor features cx wanted expression
constant_for features cx s h wanted expression g n = rw (meant_as s.types cx h.stand wanted n) (constant_as features cx s h wanted expression g n)
