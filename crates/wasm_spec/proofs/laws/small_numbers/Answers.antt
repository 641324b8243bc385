use Rattle.std.proofs.Common.{arith, refl}
use Rattle.wasm_spec.proofs.laws.small_numbers.Goals as goal

pub returns-clause-greatest : goal.returns-clause-greatest
returns-clause-greatest c = (
  omega arith,
  omega arith,
  omega arith,
  33554431,
  refl,
  (
    omega arith,
    omega arith,
    omega arith,
    262143,
    refl,
    (omega arith, omega arith, omega arith, 2047, refl, (omega arith, omega arith, omega arith, 15, refl, (omega arith, omega arith, refl))),
  ),
)
