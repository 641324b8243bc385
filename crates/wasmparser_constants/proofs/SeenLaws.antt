-- Constant expressions ask no more of a context than what they see.
use Rattle.std.proofs.Common.{◌≡◌, ℕ, [], ◌∷◌, ◌++◌, Option, Some, None, Result, slice_get, refl, subst, sym}
use Rattle.std.specs.Prelude.{⊤}
use Rattle.wasm_spec.specs.Constants.{ConstantOperator, I32Const, I64Const, F32Const, F64Const, V128Const, RefNull, RefFunc, GlobalGet, I32Add, I32Sub, I32Mul, I64Add, I64Sub, I64Mul, StructNew, StructNewDefault, ArrayNew, ArrayNewDefault, ArrayNewFixed, AnyConvertExtern, ExternConvertAny, RefI31, ConstantExpression}
use Rattle.wasm_spec.specs.Features.{Features}
use Rattle.wasm_spec.specs.Trees.{DefType}
use Rattle.wasm_spec.specs.Types.{Abstract, Concrete, ValType, I32, I64, F32, F64, V128, Ref}
use Rattle.wasm_validity.specs.ConstantTyping.{Does, IsConstantFor, IsConstantOf, Leaves, Operands, Runs, effect, meant}
use Rattle.wasm_validity.specs.Context.{Context}
use Rattle.wasm_validity.specs.Rules.{IsBelow}
use Rattle.wasmparser_constants.proofs.StepLaws.{does_on}
use Rattle.wasmparser_constants.proofs.TakingLaws.{judges_on}
use Rattle.wasmparser_constants.specs.Scopes.{seen}
use Rattle.wasmparser_constants.specs.Steps.{BeginsRightly, Judges}
use Rattle.wasmparser_error.specs.declared.error.Error.{Error}

module _ (features : Features) (cx : Context) where
  same_effect : (operator : ConstantOperator) → effect features (seen cx) operator ≡ effect features cx operator
  same_effect (I32Const value) = refl
  same_effect (I64Const value) = refl
  same_effect (F32Const bits) = refl
  same_effect (F64Const bits) = refl
  same_effect (V128Const bytes) = refl
  same_effect (RefNull (Abstract heap)) = refl
  same_effect (RefNull (Concrete index)) = refl
  same_effect (RefFunc function) = refl
  same_effect (GlobalGet global) = refl
  same_effect I32Add = refl
  same_effect I32Sub = refl
  same_effect I32Mul = refl
  same_effect I64Add = refl
  same_effect I64Sub = refl
  same_effect I64Mul = refl
  same_effect (StructNew index) = refl
  same_effect (StructNewDefault index) = refl
  same_effect (ArrayNew index) = refl
  same_effect (ArrayNewDefault index) = refl
  same_effect (ArrayNewFixed index count) = refl
  same_effect AnyConvertExtern = refl
  same_effect ExternConvertAny = refl
  same_effect RefI31 = refl

  same_meaning : (type : ValType ℕ) → meant (seen cx) type ≡ meant cx type
  same_meaning I32 = refl
  same_meaning I64 = refl
  same_meaning F32 = refl
  same_meaning F64 = refl
  same_meaning V128 = refl
  same_meaning (Ref nullable (Abstract heap)) = refl
  same_meaning (Ref nullable (Concrete index)) = refl

  runs_in : (expression : ConstantExpression) (operands : Operands) (Then : Operands → Type 0) → Runs features (seen cx) expression operands Then → Runs features cx expression operands Then
  runs_in [] operands Then runs = runs
  runs_in (operator ∷ operators) operands Then runs =
      does_on (λ next r. runs_in operators next Then r) (effect features cx operator) operands
      (subst (λ e. Does e operands (λ next. Runs features (seen cx) operators next Then)) (same_effect operator) runs)

  runs_seen : (expression : ConstantExpression) (operands : Operands) (Then : Operands → Type 0) → Runs features cx expression operands Then → Runs features (seen cx) expression operands Then
  runs_seen [] operands Then runs = runs
  runs_seen (operator ∷ operators) operands Then runs =
      subst (λ e. Does e operands (λ next. Runs features (seen cx) operators next Then)) (sym (same_effect operator))
      (does_on (λ next r. runs_seen operators next Then r) (effect features cx operator) operands runs)

  pub constant_in : (wanted : ValType DefType) (expression : ConstantExpression) → IsConstantOf features (seen cx) wanted expression → IsConstantOf features cx wanted expression
  constant_in wanted expression is = runs_in expression [] (Leaves wanted) is

  pub constant_seen : (wanted : ValType DefType) (expression : ConstantExpression) → IsConstantOf features cx wanted expression → IsConstantOf features (seen cx) wanted expression
  constant_seen wanted expression is = runs_seen expression [] (Leaves wanted) is

  pub initialiser_in : (type : ValType ℕ) (expression : ConstantExpression) → IsConstantFor features (seen cx) type expression → IsConstantFor features cx type expression
  initialiser_in I32 expression is = constant_in I32 expression is
  initialiser_in I64 expression is = constant_in I64 expression is
  initialiser_in F32 expression is = constant_in F32 expression is
  initialiser_in F64 expression is = constant_in F64 expression is
  initialiser_in V128 expression is = constant_in V128 expression is
  initialiser_in (Ref nullable (Abstract heap)) expression is = constant_in (Ref nullable (Abstract heap)) expression is
  initialiser_in (Ref nullable (Concrete index)) expression is = by_found (slice_get cx.types index) refl
    where
      by_found : (found : Option DefType) → slice_get cx.types index ≡ found → IsConstantFor features cx (Ref nullable (Concrete index)) expression
      by_found None at = let none = rw at at is in absurd none
      by_found (Some type) at = let some = rw at at is in rw at (constant_in (Ref nullable (Concrete type)) expression some)

  pub initialiser_seen : (type : ValType ℕ) (expression : ConstantExpression) → IsConstantFor features cx type expression → IsConstantFor features (seen cx) type expression
  initialiser_seen I32 expression is = constant_seen I32 expression is
  initialiser_seen I64 expression is = constant_seen I64 expression is
  initialiser_seen F32 expression is = constant_seen F32 expression is
  initialiser_seen F64 expression is = constant_seen F64 expression is
  initialiser_seen V128 expression is = constant_seen V128 expression is
  initialiser_seen (Ref nullable (Abstract heap)) expression is = constant_seen (Ref nullable (Abstract heap)) expression is
  initialiser_seen (Ref nullable (Concrete index)) expression is = by_found (slice_get cx.types index) refl
    where
      by_found : (found : Option DefType) → slice_get cx.types index ≡ found → IsConstantFor features (seen cx) (Ref nullable (Concrete index)) expression
      by_found None at = let none = rw at at is in absurd none
      by_found (Some type) at = let some = rw at at is in rw at (constant_seen (Ref nullable (Concrete type)) expression some)

  constant_begins : (wanted : ValType DefType) (expression : ConstantExpression) → IsConstantOf features cx wanted expression → BeginsRightly features cx expression
  constant_begins wanted [] is = absurd is
  constant_begins wanted (operator ∷ operators) is =
      record { front = []; last = operator; rest = operators; parts = refl; run = does_on (λ next r. tt) (effect features cx operator) [] is }

  -- an expression that gives a value begins rightly
  pub initialiser_begins : (type : ValType ℕ) (expression : ConstantExpression) → IsConstantFor features cx type expression → BeginsRightly features cx expression
  initialiser_begins I32 expression is = constant_begins I32 expression is
  initialiser_begins I64 expression is = constant_begins I64 expression is
  initialiser_begins F32 expression is = constant_begins F32 expression is
  initialiser_begins F64 expression is = constant_begins F64 expression is
  initialiser_begins V128 expression is = constant_begins V128 expression is
  initialiser_begins (Ref nullable (Abstract heap)) expression is = constant_begins (Ref nullable (Abstract heap)) expression is
  initialiser_begins (Ref nullable (Concrete index)) expression is = by_found (slice_get cx.types index) refl
    where
      by_found : (found : Option DefType) → slice_get cx.types index ≡ found → BeginsRightly features cx expression
      by_found None at = let none = rw at at is in absurd none
      by_found (Some type) at = let some = rw at at is in constant_begins (Ref nullable (Concrete type)) expression some

  begins_in : (expression : ConstantExpression) → BeginsRightly features (seen cx) expression → BeginsRightly features cx expression
  begins_in expression begins =
      record { front = begins.front; last = begins.last; rest = begins.rest; parts = begins.parts; run = runs_in (begins.front ++ begins.last ∷ []) [] (λ operands. ⊤) begins.run }

  -- what a call returned that judges an initialiser
  pub judged_in : (type : ValType ℕ) (expression : ConstantExpression) (place : ℕ) (result : Result (Unit {0}) Error)
      → Judges place (IsConstantFor features (seen cx) type expression) (BeginsRightly features (seen cx) expression) result
      → Judges place (IsConstantFor features cx type expression) (BeginsRightly features cx expression) result
  judged_in type expression place result judged = judges_on place (initialiser_in type expression) (initialiser_seen type expression) (begins_in expression) result judged

  pub below_in : (a b : ValType ℕ) → IsBelow (seen cx) a b → IsBelow cx a b
  below_in a b is = rw (same_meaning a, same_meaning b) at is

  pub below_seen : (a b : ValType ℕ) → IsBelow cx a b → IsBelow (seen cx) a b
  below_seen a b is = rw (same_meaning a, same_meaning b) is
