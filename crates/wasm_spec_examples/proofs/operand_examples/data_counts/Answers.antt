use Rattle.std.proofs.Common.{refl}
use Rattle.wasm_spec_examples.proofs.RightBodies.{right, wrong}
use Rattle.wasm_spec_examples.proofs.operand_examples.data_counts.Goals as goal

pub returns : goal.returns
returns c = record {
  init = wrong refl;
  dropped = wrong refl;
  without_data = right refl;
}
