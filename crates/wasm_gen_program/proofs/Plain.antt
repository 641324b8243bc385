-- Commands that are added.
use Rattle.std.proofs.Common.{◌≡◌, Bool, true, false, refl, Result, Ok, Err}
use Rattle.std.specs.Prelude.{◌&&◌, not, IfOk, IsOkAnd}

-- what follows two tests and is not so
pub third : (a b c others : Bool) → (a && (not b && (not c && others))) ≡ true → c ≡ false
third true false false others is = refl
third true false true others is = absurd cc
third true true c others is = absurd cc
third false b c others is = absurd cc

module _ {A E : Type 0} {P Q : A → Type 0} {R : Type 0} where
  -- what holds of a value that is there
  pub of_value : (result : Result A E) → IfOk result P → IsOkAnd result Q → ((x : A) → P x → Q x → R) → R
  of_value (Ok x) p q from = from x p q
  of_value (Err e) p q from = absurd q
