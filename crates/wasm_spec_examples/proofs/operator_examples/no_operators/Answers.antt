use Rattle.std.proofs.Common.{refl}
use Rattle.wasm_spec_examples.proofs.RightBodies.{wrong}
use Rattle.wasm_spec_examples.proofs.operator_examples.no_operators.Goals as goal

pub returns : goal.returns
returns c = record {
  parted = wrong refl;
  ended = wrong refl;
}
