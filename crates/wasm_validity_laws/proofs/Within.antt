-- Numbers within a bound that they are tested against.
use Rattle.std.proofs.Common.{◌≡◌, ℕ, ◌≤◌, true, arith}
use Rattle.std.specs.Prelude.{not, nat_lt}
use Rattle.std.proofs.lemmas.Bool.Decides.{nat_tests}

pub within : (most n : ℕ) → not (nat_lt most n) ≡ true → n ≤ most
within most n e = grind (arith, nat_tests)
