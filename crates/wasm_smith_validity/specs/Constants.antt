-- Constant expressions that give a value of a type, a type being its index: one operator by itself, or two operators and an operation on what they
-- give. It is a part of the expressions that the standard has; the generator makes no others. Core Specification 3.0, Validation, Instructions, "Constant
-- Expressions".
use Rattle.std.specs.Prelude.{◌≡◌, ℕ, true, false, not, List, [], ◌∷◌, slice_get, Option, Some, None, option_map, if◌then◌else◌}
use Rattle.std.specs.Option.{option_and_then}
use Rattle.wasm_spec.specs.Constants.{ConstantOperator, I32Const, I64Const, F32Const, F64Const, V128Const, RefNull, RefFunc, GlobalGet, I32Add, I32Sub, I32Mul, I64Add, I64Sub, I64Mul, ConstantExpression}
use Rattle.wasm_spec.specs.Features.{Features, has, ReferenceTypes, Simd, Floats, ExtendedConst, Gc}
use Rattle.wasm_spec.specs.Subtyping.{ValBelow}
use Rattle.wasm_spec.specs.Types.{Concrete, ValType, I32, I64, F32, F64, V128, Ref, GlobalType, SubType}
use Rattle.wasm_validity.specs.ConstantTyping.{provided}
use Rattle.wasm_smith_validity.specs.Spaces.{Spaces, functions_of, globals_of, is_value}

-- the types, the type index of each function, and the globals that an expression sees, which are the first of their space
pub record Scope : Type 0 where
  pub types : List (SubType ℕ)
  pub functions : List ℕ
  pub globals : List (GlobalType ℕ)

-- An expression sees the imported globals, and with garbage collection the module's own that come before it.
abbrev pub scope : Features → Spaces → Scope
scope features spaces =
    record { types = spaces.types; functions = functions_of spaces; globals = if has features Gc then globals_of spaces else spaces.imported_globals }

-- An initialiser of a table sees the imported globals alone.
abbrev pub imported_scope : Spaces → Scope
imported_scope spaces = record { types = spaces.types; functions = functions_of spaces; globals = spaces.imported_globals }

-- One type is below another: the closure of direct steps and declared links, over type indexes (Matching, "Value Types").
abbrev pub IsBelow : List (SubType ℕ) → ValType ℕ → ValType ℕ → Type 0
IsBelow types a b = ValBelow (slice_get types) a b

-- a global that is never written to
abbrev pub constant_global : List (GlobalType ℕ) → ℕ → Option (GlobalType ℕ)
constant_global globals index = option_and_then (λ type. provided (not type.mutable) (Some type)) (slice_get globals index)

-- the type of the value that an operator gives by itself, if it gives one
abbrev pub given : Features → Scope → ConstantOperator → Option (ValType ℕ)
given features s (I32Const value) = Some I32
given features s (I64Const value) = Some I64
given features s (F32Const bits) = provided (has features Floats) (Some F32)
given features s (F64Const bits) = provided (has features Floats) (Some F64)
given features s (V128Const bytes) = provided (has features Simd) (Some V128)
given features s (RefNull heap) = provided (is_value features s.types (Ref true heap)) (Some (Ref true heap))
given features s (RefFunc function) = provided (has features ReferenceTypes) (option_map (λ type. Ref false (Concrete type)) (slice_get s.functions function))
given features s (GlobalGet global) = option_map (λ type. type.value_type) (constant_global s.globals global)
given features s _ = None

-- the type that an operation takes two values of and gives one of
abbrev pub type_of_operation : ConstantOperator → Option (ValType ℕ)
type_of_operation I32Add = Some I32
type_of_operation I32Sub = Some I32
type_of_operation I32Mul = Some I32
type_of_operation I64Add = Some I64
type_of_operation I64Sub = Some I64
type_of_operation I64Mul = Some I64
type_of_operation _ = None

-- a value is given, of a type below this one
abbrev pub IsGiven : List (SubType ℕ) → ValType ℕ → Option (ValType ℕ) → Type 0
IsGiven types wanted None = ⊥
IsGiven types wanted (Some type) = IsBelow types type wanted

-- two values of the type are given, and an operation makes one of them
pub record IsOperation (features : Features) (s : Scope) (wanted : ValType ℕ) (a b operator : ConstantOperator) : Type 0 where
  pub on : has features ExtendedConst ≡ true
  pub makes : type_of_operation operator ≡ Some wanted
  pub first : given features s a ≡ Some wanted
  pub second : given features s b ≡ Some wanted

-- the expression gives a value of the type
abbrev pub IsConstant : Features → Scope → ValType ℕ → ConstantExpression → Type 0
IsConstant features s wanted (operator ∷ []) = IsGiven s.types wanted (given features s operator)
IsConstant features s wanted (a ∷ b ∷ operator ∷ []) = IsOperation features s wanted a b operator
IsConstant features s wanted _ = ⊥
