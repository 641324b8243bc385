use Rattle.std.proofs.Common.{refl}
use Rattle.wasm_spec_examples.proofs.RightBodies.{right, wrong}
use Rattle.wasm_spec_examples.proofs.block_examples.unreachable_code.Goals as goal

pub returns : goal.returns
returns c = record {
  supplied = right refl;
  unknown = right refl;
  known = right refl;
  known_of_another = wrong refl;
  result_of_another = wrong refl;
  too_many = wrong refl;
  after_jump = right refl;
  after_table = right refl;
  after_return = right refl;
  after_condition = wrong refl;
  block_inside = right refl;
  unknown_in_block = wrong refl;
  unknown_for_block = right refl;
  only_inside = wrong refl;
  condition_unknown = right refl;
  null_unknown = right refl;
}
