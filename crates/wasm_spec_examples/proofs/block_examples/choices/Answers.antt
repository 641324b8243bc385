use Rattle.std.proofs.Common.{refl}
use Rattle.wasm_spec_examples.proofs.RightBodies.{right, wrong}
use Rattle.wasm_spec_examples.proofs.block_examples.choices.Goals as goal

pub returns : goal.returns
returns c = record {
  one = right refl;
  no_condition = wrong refl;
  large_condition = wrong refl;
  both = right refl;
  first_wrong = wrong refl;
  second_wrong = wrong refl;
  second_missing = wrong refl;
  taken_is_given = (right refl, wrong refl);
  taken_is_another = wrong refl;
  both_take = right refl;
  second_takes = wrong refl;
  jump_takes_results = right refl;
  jump_takes_no_parameters = wrong refl;
  second_jump_takes_no_parameters = wrong refl;
  only_jump_takes_results = right refl;
  only_jump_takes_no_others = wrong refl;
  jump_from_second = right refl;
}
