use Rattle.std.proofs.Common.{refl}
use Rattle.wasm_spec_examples.proofs.RightBodies.{right, wrong}
use Rattle.wasm_spec_examples.proofs.block_examples.jumps.Goals as goal

pub returns : goal.returns
returns c = record {
  to_block = right refl;
  to_block_with_nothing = wrong refl;
  to_loop = right refl;
  to_loop_that_takes = right refl;
  to_loop_with_nothing = wrong refl;
  to_loop_with_another = wrong refl;
  more_below = right refl;
  to_body = right refl;
  to_body_with_another = wrong refl;
  to_nothing = wrong refl;
  returned = right refl;
  returned_another = wrong refl;
  returned_nothing = wrong refl;
}
