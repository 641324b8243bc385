use Rattle.std.proofs.Common.{refl}
use Rattle.wasm_spec_examples.proofs.RightBodies.{right, wrong}
use Rattle.wasm_spec_examples.proofs.operator_examples.globals.Goals as goal

pub returns : goal.returns
returns c = record {
  got = right refl;
  got_none = wrong refl;
  set = right refl;
  set_constant = wrong refl;
  set_to_another = wrong refl;
}
