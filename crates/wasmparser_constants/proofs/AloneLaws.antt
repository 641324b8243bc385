-- Expressions of a single operator.
use Rattle.std.proofs.Common.{◌≡◌, true, [], ◌∷◌, Option, Some, subst, sym, refl}
use Rattle.wasm_spec.specs.Constants.{ConstantOperator, ConstantExpression}
use Rattle.wasm_spec.specs.Features.{Features}
use Rattle.wasm_spec.specs.Subtyping.{ValBelow}
use Rattle.wasm_spec.specs.Trees.{DefType, unrolled}
use Rattle.wasm_spec.specs.Types.{ValType}
use Rattle.wasm_validity.specs.ConstantTyping.{Does, Effect, IsConstantOf, Leaves, Runs, effect, puts}
use Rattle.wasm_validity.specs.Context.{Context}
use Rattle.wasmparser_entries.specs.ConstExprs.{are_none}
use Rattle.wasmparser_constants.specs.Steps.{IsAlone}

module _ (features : Features) (cx : Context) (type wanted : ValType DefType) where
  abbrev of_effect : Option Effect → Type 0
  of_effect found = Does found [] (λ next. Runs features cx [] next (Leaves wanted))

  pub alone_holds : (expression : ConstantExpression) → IsAlone features cx type expression → ValBelow unrolled type wanted → IsConstantOf features cx wanted expression
  alone_holds [] is below = absurd is
  alone_holds (operator ∷ []) is below = subst of_effect (sym is) below
  alone_holds (operator ∷ other ∷ others) is below = absurd is

  pub alone_only : (expression : ConstantExpression) → IsAlone features cx type expression → IsConstantOf features cx wanted expression → ValBelow unrolled type wanted
  alone_only [] is holds = absurd is
  alone_only (operator ∷ []) is holds = subst of_effect is holds
  alone_only (operator ∷ other ∷ others) is holds = absurd is

pub first_alone : (features : Features) (cx : Context) (type : ValType DefType) (operator : ConstantOperator) (whole others : ConstantExpression) → whole ≡ operator ∷ others → are_none others ≡ true
    → effect features cx operator ≡ Some (puts type) → IsAlone features cx type whole
first_alone features cx type operator whole [] parts none e = subst (λ expression. IsAlone features cx type expression) (sym parts) e
first_alone features cx type operator whole (other ∷ others) parts none e = absurd cc

pub short_alone : (features : Features) (cx : Context) (type : ValType DefType) (operator : ConstantOperator) (whole : ConstantExpression) → whole ≡ operator ∷ []
    → effect features cx operator ≡ Some (puts type) → IsAlone features cx type whole
short_alone features cx type operator whole parts e = first_alone features cx type operator whole [] parts refl e

pub ruleset alone_steps = (alone_holds, alone_only, first_alone, short_alone)
