-- Which constant expressions give a value of a type. Core Specification 3.0, Validation, "Instructions" (with "Instruction Sequences" and, under
-- "Expressions", "Constant Expressions"). Types of operands are over defined types. What is said with Then is asked of the operands that are there next.
use Rattle.std.specs.Prelude.{ℕ, Bool, true, false, not, ◌||◌, List, [], ◌∷◌, length, map, reverse, replicate, nat_lt, Option, Some, None, option_map, if◌then◌else◌}
use Rattle.std.specs.List.{list_all, slice_get}
use Rattle.std.specs.Option.{option_and_then}
use Rattle.wasm_spec.specs.Constants.{ConstantOperator, I32Const, I64Const, F32Const, F64Const, V128Const, RefNull, RefFunc, GlobalGet, I32Add, I32Sub, I32Mul, I64Add, I64Sub, I64Mul, StructNew, StructNewDefault, ArrayNew, ArrayNewDefault, ArrayNewFixed, AnyConvertExtern, ExternConvertAny, RefI31, ConstantExpression}
use Rattle.wasm_spec.specs.Features.{Features, has, ReferenceTypes, Simd, Floats, ExtendedConst, Gc}
use Rattle.wasm_spec.specs.Subtyping.{HeapBelow, ValBelow}
use Rattle.wasm_spec.specs.Trees.{DefType, type_at, unrolled}
use Rattle.wasm_spec.specs.Types.{AbstractHeapType, Extern, Any, I31, HeapType, Abstract, Concrete, ValType, I32, I64, F32, F64, V128, Ref, StorageType, I8, I16, Val, GlobalType}
use Rattle.wasm_validity.specs.Context.{Context, functions_in, globals_in}
use Rattle.wasm_validity.specs.DefinedTypes.{composite_at, element_in, fields_in}
use Rattle.wasm_validity.specs.TypeRules.{is_value}

-- the types of the operands, the last one first
abbrev pub Operands : Type 0
Operands = List (ValType DefType)

-- what a type stands for that is written with type indexes, if these name types
abbrev pub heap_meant : Context → HeapType ℕ → Option (HeapType DefType)
heap_meant cx (Abstract heap) = Some (Abstract heap)
heap_meant cx (Concrete index) = option_map (λ type. Concrete type) (slice_get cx.types index)

abbrev pub meant : Context → ValType ℕ → Option (ValType DefType)
meant cx I32 = Some I32
meant cx I64 = Some I64
meant cx F32 = Some F32
meant cx F64 = Some F64
meant cx V128 = Some V128
meant cx (Ref nullable heap) = option_map (λ defined. Ref nullable defined) (heap_meant cx heap)

-- ---- structures and arrays

-- what a field holds, as an operand (Structure, Types, "Composite Types")
abbrev pub unpacked : {R : Type 0} → StorageType R → ValType R
unpacked I8 = I32
unpacked I16 = I32
unpacked (Val type) = type

-- whether there is a value that a field of this type has if none is given (Validation, Types, "Defaultable Types")
abbrev pub is_defaultable : {R : Type 0} → ValType R → Bool
is_defaultable (Ref nullable heap) = nullable
is_defaultable type = true

-- the operands that the fields of a structure are made of, the first field first, if the index names a structure
abbrev pub fields_at : Context → ℕ → Option (List (ValType DefType))
fields_at cx index = option_map (map (λ field. unpacked field.element_type)) (option_and_then fields_in (composite_at cx.types index))

-- the operand that an item of an array is made of, if the index names an array
abbrev pub element_at : Context → ℕ → Option (ValType DefType)
element_at cx index = option_map (λ field. unpacked field.element_type) (option_and_then element_in (composite_at cx.types index))

-- ---- operators

-- What an operator does with the operands.
pub data Effect : Type 0 where
  -- it takes operands of these types off, the last one first, and puts one of this type there
  Puts : List (ValType DefType) → ValType DefType → Effect
  -- it makes a reference of one kind one of another, which may be null where that might
  Converts : AbstractHeapType → AbstractHeapType → Effect

abbrev pub puts : ValType DefType → Effect
puts type = Puts [] type

-- two numbers give a third
abbrev pub puts_for_two : ValType DefType → Effect
puts_for_two type = Puts (type ∷ type ∷ []) type

-- something that there is under a condition
abbrev pub provided : {A : Type 0} → Bool → Option A → Option A
provided condition a = if condition then a else None

-- a reference to what an index names, which isn't null
abbrev pub reference_to_new : Context → ℕ → ValType DefType
reference_to_new cx index = Ref false (Concrete (type_at cx.types index))

-- A constant expression sees globals that are never written to: the imported ones, and with garbage collection the module's own that come before.
abbrev pub visible_global : Features → Context → ℕ → Option (GlobalType ℕ)
visible_global features cx index =
    provided (nat_lt index (length cx.imported_globals) || has features Gc) (option_and_then (λ type. provided (not type.mutable) (Some type)) (slice_get (globals_in cx) index))

-- what an operator does, where it may stand
abbrev pub effect : Features → Context → ConstantOperator → Option Effect
effect features cx (I32Const value) = Some (puts I32)
effect features cx (I64Const value) = Some (puts I64)
effect features cx (F32Const bits) = provided (has features Floats) (Some (puts F32))
effect features cx (F64Const bits) = provided (has features Floats) (Some (puts F64))
effect features cx (V128Const bytes) = provided (has features Simd) (Some (puts V128))
effect features cx (RefNull heap) = provided (is_value features cx (Ref true heap)) (option_map puts (meant cx (Ref true heap)))
effect features cx (RefFunc function) =
    provided (has features ReferenceTypes) (option_map (λ type. puts (Ref false (Concrete type))) (option_and_then (slice_get cx.types) (slice_get (functions_in cx) function)))
effect features cx (GlobalGet global) = option_map puts (option_and_then (λ type. meant cx type.value_type) (visible_global features cx global))
effect features cx I32Add = provided (has features ExtendedConst) (Some (puts_for_two I32))
effect features cx I32Sub = provided (has features ExtendedConst) (Some (puts_for_two I32))
effect features cx I32Mul = provided (has features ExtendedConst) (Some (puts_for_two I32))
effect features cx I64Add = provided (has features ExtendedConst) (Some (puts_for_two I64))
effect features cx I64Sub = provided (has features ExtendedConst) (Some (puts_for_two I64))
effect features cx I64Mul = provided (has features ExtendedConst) (Some (puts_for_two I64))
effect features cx (StructNew index) =
    provided (has features Gc) (option_map (λ fields. Puts (reverse fields) (reference_to_new cx index)) (fields_at cx index))
effect features cx (StructNewDefault index) =
    provided (has features Gc) (option_and_then (λ fields. provided (list_all is_defaultable fields) (Some (puts (reference_to_new cx index)))) (fields_at cx index))
-- the item, and then how many
effect features cx (ArrayNew index) =
    provided (has features Gc) (option_map (λ item. Puts (I32 ∷ item ∷ []) (reference_to_new cx index)) (element_at cx index))
effect features cx (ArrayNewDefault index) =
    provided (has features Gc) (option_and_then (λ item. provided (is_defaultable item) (Some (Puts (I32 ∷ []) (reference_to_new cx index)))) (element_at cx index))
effect features cx (ArrayNewFixed index count) =
    provided (has features Gc) (option_map (λ item. Puts (replicate count item) (reference_to_new cx index)) (element_at cx index))
effect features cx AnyConvertExtern = provided (has features Gc) (Some (Converts Extern Any))
effect features cx ExternConvertAny = provided (has features Gc) (Some (Converts Any Extern))
effect features cx RefI31 = provided (has features Gc) (Some (Puts (I32 ∷ []) (Ref false (Abstract I31))))

-- ---- operands

-- operands below these types are taken off, the last one first
abbrev pub TakesOff : List (ValType DefType) → Operands → (Operands → Type 0) → Type 0
TakesOff [] operands Then = Then operands
TakesOff (type ∷ types) [] Then = ⊥
TakesOff (type ∷ types) (operand ∷ operands) Then = ValBelow unrolled operand type × TakesOff types operands Then

-- the last operand is a reference of one kind, and becomes one of another
abbrev pub ConvertsLast : AbstractHeapType → AbstractHeapType → Operands → (Operands → Type 0) → Type 0
ConvertsLast from to (Ref nullable heap ∷ operands) Then = HeapBelow unrolled heap (Abstract from) × Then (Ref nullable (Abstract to) ∷ operands)
ConvertsLast from to _ Then = ⊥

-- the operator may stand after these operands, and is followed by what is asked of those that it leaves
abbrev pub Does : Option Effect → Operands → (Operands → Type 0) → Type 0
Does None operands Then = ⊥
Does (Some (Puts takes type)) operands Then = TakesOff takes operands (λ others. Then (type ∷ others))
Does (Some (Converts from to)) operands Then = ConvertsLast from to operands Then

-- operators may stand one after the other
abbrev pub Runs : Features → Context → ConstantExpression → Operands → (Operands → Type 0) → Type 0
Runs features cx [] operands Then = Then operands
Runs features cx (operator ∷ operators) operands Then = Does (effect features cx operator) operands (λ next. Runs features cx operators next Then)

-- ---- expressions

-- one value is left, of this type
abbrev pub Leaves : ValType DefType → Operands → Type 0
Leaves wanted (operand ∷ []) = ValBelow unrolled operand wanted
Leaves wanted _ = ⊥

-- the expression is constant and gives a value of the type
abbrev pub IsConstantOf : Features → Context → ValType DefType → ConstantExpression → Type 0
IsConstantOf features cx wanted expression = Runs features cx expression [] (Leaves wanted)

-- the same of a type that is written with type indexes
abbrev pub IsConstantFor : Features → Context → ValType ℕ → ConstantExpression → Type 0
IsConstantFor features cx type expression = gives (meant cx type)
  where
    gives : Option (ValType DefType) → Type 0
    gives None = ⊥
    gives (Some wanted) = IsConstantOf features cx wanted expression
