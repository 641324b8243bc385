use Rattle.std.proofs.Common.{refl}
use Rattle.wasm_spec_examples.proofs.RightBodies.{right, wrong}
use Rattle.wasm_spec_examples.proofs.block_examples.jumps_if.Goals as goal

pub returns : goal.returns
returns c = record {
  taken = right refl;
  no_condition = wrong refl;
  large_condition = wrong refl;
  another_value = wrong refl;
  to_nothing = wrong refl;
  types_of_label = wrong refl;
  types_before = right refl;
}
