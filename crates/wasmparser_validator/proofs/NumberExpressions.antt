-- A constant expression that gives a number names no function: a reference is never taken off without another one in its place.
use Rattle.std.proofs.Common.{◌≡◌, ◌⊎◌, inl, inr, ℕ, Bool, true, false, ◌||◌, List, [], ◌∷◌, ◌++◌, replicate, reverse, Option, Some, None, option_map, slice_get, refl, ap, ◌∙◌}
use Rattle.std.specs.List.{AllByRecursion, list_all}
use Rattle.std.specs.Option.{option_and_then}
use Rattle.std.specs.Prelude.{⊤}
use Rattle.wasm_spec.specs.Constants.{ConstantOperator, I32Const, I64Const, F32Const, F64Const, V128Const, RefNull, RefFunc, GlobalGet, I32Add, I32Sub, I32Mul, I64Add, I64Sub, I64Mul, StructNew, StructNewDefault, ArrayNew, ArrayNewDefault, ArrayNewFixed, AnyConvertExtern, ExternConvertAny, RefI31, ConstantExpression}
use Rattle.wasm_spec.specs.Features.{Features, has, ReferenceTypes, Simd, Floats, ExtendedConst, Gc}
use Rattle.wasm_spec.specs.Subtyping.{ValBelow}
use Rattle.wasm_spec.specs.Trees.{DefType, unrolled}
use Rattle.wasm_spec.specs.Types.{Extern, Any, I31, Abstract, Concrete, ValType, I32, I64, F32, F64, V128, Ref, GlobalType}
use Rattle.wasm_validity.specs.ConstantTyping.{Effect, Puts, Converts, Operands, TakesOff, ConvertsLast, Does, Runs, Leaves, IsConstantOf, effect, element_at, fields_at, is_defaultable, meant, provided, puts, puts_for_two, reference_to_new, visible_global}
use Rattle.wasm_validity.specs.Context.{Context, functions_in, named_by, named_in}
use Rattle.wasm_validity.specs.TypeRules.{is_value}

-- ---- references among operands

abbrev pub is_reference : ValType DefType → Bool
is_reference (Ref nullable heap) = true
is_reference type = false

abbrev has_reference : Operands → Bool
has_reference [] = false
has_reference (operand ∷ operands) = is_reference operand || has_reference operands

abbrev IsNumber : ValType DefType → Type 0
IsNumber type = is_reference type ≡ false

-- what is below a number is none
number_below : (a b : ValType DefType) → ValBelow unrolled a b → IsNumber b → IsNumber a
number_below I32 b below number = refl
number_below I64 b below number = refl
number_below F32 b below number = refl
number_below F64 b below number = refl
number_below V128 b below number = refl
number_below (Ref n a) (Ref m b) below number = absurd cc
number_below (Ref n a) I32 below number = absurd below
number_below (Ref n a) I64 below number = absurd below
number_below (Ref n a) F32 below number = absurd below
number_below (Ref n a) F64 below number = absurd below
number_below (Ref n a) V128 below number = absurd below

rest_has : (a b : Bool) → a ≡ false → (a || b) ≡ true → b ≡ true
rest_has false b none h = h
rest_has true b none h = absurd cc

first_has : (a b : Bool) → a ≡ true → (a || b) ≡ true
first_has true b one = refl
first_has false b one = absurd cc

-- ---- what operators do

-- it puts a reference there, or takes off numbers alone
abbrev Keeps : Option Effect → Type 0
Keeps None = ⊤
Keeps (Some (Puts takes type)) = (is_reference type ≡ true) ⊎ AllByRecursion IsNumber takes
Keeps (Some (Converts from to)) = ⊤

kept_provided : (condition : Bool) (o : Option Effect) → Keeps o → Keeps (provided condition o)
kept_provided true o keeps = keeps
kept_provided false o keeps = tt

kept_map : {A : Type 0} (f : A → Effect) → ((a : A) → Keeps (Some (f a))) → (o : Option A) → Keeps (option_map f o)
kept_map f each None = tt
kept_map f each (Some a) = each a

kept_then : {A : Type 0} (f : A → Option Effect) → ((a : A) → Keeps (f a)) → (o : Option A) → Keeps (option_and_then f o)
kept_then f each None = tt
kept_then f each (Some a) = each a

kept_made : {A : Type 0} (condition : Bool) (f : A → Effect) → ((a : A) → Keeps (Some (f a))) → (o : Option A) → Keeps (provided condition (option_map f o))
kept_made condition f each o = kept_provided condition (option_map f o) (kept_map f each o)

-- two numbers give a third
kept_two : (condition : Bool) (type : ValType DefType) → IsNumber type → Keeps (provided condition (Some (puts_for_two type)))
kept_two condition type number = kept_provided condition (Some (puts_for_two type)) (inr (number, (number, tt)))

module _ (features : Features) (cx : Context) where
  abbrev new_if : ℕ → Bool → Option Effect
  new_if index condition = provided condition (Some (puts (reference_to_new cx index)))

  abbrev new_array_if : ℕ → ValType DefType → Option Effect
  new_array_if index item = provided (is_defaultable item) (Some (Puts (I32 ∷ []) (reference_to_new cx index)))

  kept : (operator : ConstantOperator) → Keeps (effect features cx operator)
  kept (I32Const value) = inr tt
  kept (I64Const value) = inr tt
  kept (F32Const bits) = kept_provided (has features Floats) (Some (puts F32)) (inr tt)
  kept (F64Const bits) = kept_provided (has features Floats) (Some (puts F64)) (inr tt)
  kept (V128Const bytes) = kept_provided (has features Simd) (Some (puts V128)) (inr tt)
  kept (RefNull heap) = kept_made (is_value features cx (Ref true heap)) puts (λ type. inr tt) (meant cx (Ref true heap))
  kept (RefFunc function) =
      kept_made (has features ReferenceTypes) (λ (type : DefType). puts (Ref false (Concrete type))) (λ type. inl refl) (option_and_then (slice_get cx.types) (slice_get (functions_in cx) function))
  kept (GlobalGet global) = kept_map puts (λ type. inr tt) (option_and_then (λ (type : GlobalType ℕ). meant cx type.value_type) (visible_global features cx global))
  kept I32Add = kept_two (has features ExtendedConst) I32 refl
  kept I32Sub = kept_two (has features ExtendedConst) I32 refl
  kept I32Mul = kept_two (has features ExtendedConst) I32 refl
  kept I64Add = kept_two (has features ExtendedConst) I64 refl
  kept I64Sub = kept_two (has features ExtendedConst) I64 refl
  kept I64Mul = kept_two (has features ExtendedConst) I64 refl
  kept (StructNew index) = kept_made (has features Gc) (λ (fields : List (ValType DefType)). Puts (reverse fields) (reference_to_new cx index)) (λ fields. inl refl) (fields_at cx index)
  kept (StructNewDefault index) =
      let made : List (ValType DefType) → Option Effect = λ fields. new_if index (list_all is_defaultable fields) in
      kept_provided (has features Gc) (option_and_then made (fields_at cx index))
      (kept_then made (λ fields. kept_provided (list_all is_defaultable fields) (Some (puts (reference_to_new cx index))) (inl refl)) (fields_at cx index))
  kept (ArrayNew index) = kept_made (has features Gc) (λ (item : ValType DefType). Puts (I32 ∷ item ∷ []) (reference_to_new cx index)) (λ item. inl refl) (element_at cx index)
  kept (ArrayNewDefault index) =
      let made : ValType DefType → Option Effect = λ item. new_array_if index item in
      kept_provided (has features Gc) (option_and_then made (element_at cx index))
      (kept_then made (λ item. kept_provided (is_defaultable item) (Some (Puts (I32 ∷ []) (reference_to_new cx index))) (inl refl)) (element_at cx index))
  kept (ArrayNewFixed index count) = kept_made (has features Gc) (λ (item : ValType DefType). Puts (replicate count item) (reference_to_new cx index)) (λ item. inl refl) (element_at cx index)
  kept AnyConvertExtern = kept_provided (has features Gc) (Some (Converts Extern Any)) tt
  kept ExternConvertAny = kept_provided (has features Gc) (Some (Converts Any Extern)) tt
  kept RefI31 = kept_provided (has features Gc) (Some (Puts (I32 ∷ []) (Ref false (Abstract I31)))) (inl refl)

-- ---- what they leave

taken : (types : List (ValType DefType)) (operands : Operands) (Then : Operands → Type 0) → TakesOff types operands Then → (others : Operands) × Then others
taken [] operands Then h = (operands, h)
taken (type ∷ types) [] Then h = absurd h
taken (type ∷ types) (operand ∷ operands) Then h = taken types operands Then h.1

numbers_taken : (types : List (ValType DefType)) (operands : Operands) (Then : Operands → Type 0) → AllByRecursion IsNumber types → has_reference operands ≡ true → TakesOff types operands Then
    → (others : Operands) × (has_reference others ≡ true) × Then others
numbers_taken [] operands Then all has h = (operands, has, h)
numbers_taken (type ∷ types) [] Then all has h = absurd h
numbers_taken (type ∷ types) (operand ∷ operands) Then all has h =
    numbers_taken types operands Then all.1 (rest_has (is_reference operand) (has_reference operands) (number_below operand type h.0 all.0) has) h.1

or_has : (a b : Bool) → b ≡ true → (a || b) ≡ true
or_has true b h = refl
or_has false b h = h

-- with a reference among the operands there is one afterwards
done_with : (e : Option Effect) → Keeps e → (operands : Operands) → has_reference operands ≡ true → (Then : Operands → Type 0) → Does e operands Then
    → (next : Operands) × (has_reference next ≡ true) × Then next
done_with None keeps operands has Then h = absurd h
done_with (Some (Puts takes type)) keeps operands has Then h = elim keeps [
  | inl reference ↦
      let (others, rest) = taken takes operands (λ others. Then (type ∷ others)) h in
      (type ∷ others, first_has (is_reference type) (has_reference others) reference, rest)
  | inr numbers ↦
      let (others, still, rest) = numbers_taken takes operands (λ others. Then (type ∷ others)) numbers has h in
      (type ∷ others, or_has (is_reference type) (has_reference others) still, rest)
]
done_with (Some (Converts from to)) keeps operands has Then h = converted operands h
  where
    converted : (operands : Operands) → ConvertsLast from to operands Then → (next : Operands) × (has_reference next ≡ true) × Then next
    converted (Ref nullable heap ∷ others) h = (Ref nullable (Abstract to) ∷ others, refl, h.1)
    converted [] h = absurd h
    converted (I32 ∷ others) h = absurd h
    converted (I64 ∷ others) h = absurd h
    converted (F32 ∷ others) h = absurd h
    converted (F64 ∷ others) h = absurd h
    converted (V128 ∷ others) h = absurd h

done : (e : Option Effect) (operands : Operands) (Then : Operands → Type 0) → Does e operands Then → (next : Operands) × Then next
done None operands Then h = absurd h
done (Some (Puts takes type)) operands Then h = let (others, rest) = taken takes operands (λ others. Then (type ∷ others)) h in (type ∷ others, rest)
done (Some (Converts from to)) operands Then h = converted operands h
  where
    converted : (operands : Operands) → ConvertsLast from to operands Then → (next : Operands) × Then next
    converted (Ref nullable heap ∷ others) h = (Ref nullable (Abstract to) ∷ others, h.1)
    converted [] h = absurd h
    converted (I32 ∷ others) h = absurd h
    converted (I64 ∷ others) h = absurd h
    converted (F32 ∷ others) h = absurd h
    converted (F64 ∷ others) h = absurd h
    converted (V128 ∷ others) h = absurd h

-- a function that is named is put there
named_put : (condition : Bool) (o : Option DefType) (operands : Operands) (Then : Operands → Type 0) → Does (provided condition (option_map (λ type. puts (Ref false (Concrete type))) o)) operands Then
    → (next : Operands) × (has_reference next ≡ true) × Then next
named_put false o operands Then h = absurd h
named_put true None operands Then h = absurd h
named_put true (Some type) operands Then h = (Ref false (Concrete type) ∷ operands, refl, h)

-- ---- expressions

leaves_number : (wanted : ValType DefType) → IsNumber wanted → (operands : Operands) → has_reference operands ≡ true → Leaves wanted operands → ⊥
leaves_number wanted number [] has leaves = absurd leaves
leaves_number wanted number (operand ∷ []) has leaves =
    let never : false ≡ true = rest_has (is_reference operand) false (number_below operand wanted leaves number) has in
    absurd cc
leaves_number wanted number (operand ∷ another ∷ operands) has leaves = absurd leaves

module _ (features : Features) (cx : Context) (wanted : ValType DefType) (number : IsNumber wanted) where
  no_number : (expression : ConstantExpression) (operands : Operands) → has_reference operands ≡ true → Runs features cx expression operands (Leaves wanted) → ⊥
  no_number [] operands has runs = leaves_number wanted number operands has runs
  no_number (operator ∷ operators) operands has runs =
      let (next, still, rest) = done_with (effect features cx operator) (kept features cx operator) operands has (λ next. Runs features cx operators next (Leaves wanted)) runs in
      no_number operators next still rest

  none_named : (expression : ConstantExpression) (operands : Operands) → Runs features cx expression operands (Leaves wanted) → named_in expression ≡ []
  none_named [] operands runs = refl
  none_named (operator ∷ operators) operands runs =
      let (next, rest) = done (effect features cx operator) operands (λ next. Runs features cx operators next (Leaves wanted)) runs in
      ap (λ names. names ++ named_in operators) (by_operator operator operators operands runs) ∙ none_named operators next rest
    where
      by_operator : (operator : ConstantOperator) (operators : ConstantExpression) (operands : Operands) → Runs features cx (operator ∷ operators) operands (Leaves wanted) → named_by operator ≡ []
      by_operator (RefFunc function) operators operands runs =
          let (next, has, rest) = named_put (has features ReferenceTypes) (option_and_then (slice_get cx.types) (slice_get (functions_in cx) function)) operands (λ next. Runs features cx operators next (Leaves wanted)) runs in
          absurd (no_number operators next has rest)
      by_operator _ operators operands runs = refl

  pub number_names_none : (expression : ConstantExpression) → IsConstantOf features cx wanted expression → named_in expression ≡ []
  number_names_none expression is = none_named expression [] is
