-- Constant expressions as they are drawn.
use Rattle.std.specs.Prelude.{◌≡◌, ◌⊎◌, ℤ, ℕ, Bool, true, List, [], ◌∷◌}
use Rattle.wasm_spec.specs.Constants.{I32Const, I64Const, F32Const, F64Const, V128Const, RefNull, RefFunc, GlobalGet, ConstantExpression}
use Rattle.wasm_spec.specs.Features.{Features}
use Rattle.wasm_spec.specs.Types.{ValType, I32, I64, F32, F64, V128, Ref}
use Rattle.wasm_smith_config.specs.Config.{AreFeaturesOf}
use Rattle.wasm_smith_config.specs.declared.config.Config.{Config}
use Rattle.wasm_smith_definitions.specs.Items.{on_i32, on_i64}
use Rattle.wasm_smith_definitions.specs.declared.constant.Operation.{Operation}
use Rattle.wasm_smith_validity.specs.Constants.{IsConstant, scope}
use Rattle.wasm_smith_validity.specs.Spaces.{Spaces, is_value}
use Rattle.wasm_smith_definitions.specs.declared.candidates.Form.{Form}
use Rattle.wasm_smith_definitions.specs.declared.candidates.Form.TheVariants as forms

-- a module may write a type, under the features of a configuration
abbrev pub MayWrite : Config → Spaces → ValType ℕ → Type 0
MayWrite c spaces type = (features : Features) → AreFeaturesOf c features → is_value features spaces.types type ≡ true

-- a constant expression gives a value of a type, under the features of a configuration
abbrev pub Gives : Config → Spaces → ValType ℕ → ConstantExpression → Type 0
Gives c spaces type e = (features : Features) → AreFeaturesOf c features → IsConstant features (scope features spaces) type e

-- A type has plain constants, which name no global and no function, unless it is a reference that can't be null.
abbrev pub has_plain : ValType ℕ → Bool
has_plain (Ref nullable heap) = nullable
has_plain type = true

-- a number, a vector, or null
abbrev pub IsPlain : ValType ℕ → ConstantExpression → Type 0
IsPlain I32 e = (n : ℤ) × (e ≡ I32Const n ∷ [])
IsPlain I64 e = (n : ℤ) × (e ≡ I64Const n ∷ [])
IsPlain F32 e = (bits : ℕ) × (e ≡ F32Const bits ∷ [])
IsPlain F64 e = (bits : ℕ) × (e ≡ F64Const bits ∷ [])
IsPlain V128 e = (bytes : List ℕ) × (e ≡ V128Const bytes ∷ [])
IsPlain (Ref nullable heap) e = (nullable ≡ true) × (e ≡ RefNull heap ∷ [])

abbrev pub IsInteger : ValType ℕ → Type 0
IsInteger type = (type ≡ I32) ⊎ (type ≡ I64)

-- an operation on two integers
abbrev pub IsOnIntegers : ValType ℕ → ConstantExpression → Type 0
IsOnIntegers I32 e = (a b : ℤ) × (operation : Operation) × (e ≡ I32Const a ∷ I32Const b ∷ on_i32 operation ∷ [])
IsOnIntegers I64 e = (a b : ℤ) × (operation : Operation) × (e ≡ I64Const a ∷ I64Const b ∷ on_i64 operation ∷ [])
IsOnIntegers type e = ⊥

-- there are constants of a type in this form
abbrev pub Fits : Config → Spaces → ValType ℕ → Form → Type 0
Fits c spaces type forms.Plain = has_plain type ≡ true
Fits c spaces type forms.Operation = (c.extended_const_enabled ≡ true) × IsInteger type
Fits c spaces type (forms.Global global) = Gives c spaces type (GlobalGet global ∷ [])
Fits c spaces type (forms.Function function) = Gives c spaces type (RefFunc function ∷ [])
