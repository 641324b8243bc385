use Rattle.std.proofs.Common.{refl}
use Rattle.wasm_spec_examples.proofs.RightBodies.{right, wrong}
use Rattle.wasm_spec_examples.proofs.operator_examples.offsets.Goals as goal

pub returns : goal.returns
returns c = record {
  loaded = right refl;
  loaded_past = wrong refl;
  stored = right refl;
  stored_past = wrong refl;
}
