use Rattle.std.proofs.Common.{refl}
use Rattle.wasm_spec_examples.proofs.RightBodies.{right, wrong}
use Rattle.wasm_spec_examples.proofs.operand_examples.unknown_operands.Goals as goal

pub returns : goal.returns
returns c = record {
  chosen = right refl;
  chosen_known = right refl;
  chosen_as_another = wrong refl;
  chosen_reference = wrong refl;
  chosen_unknown_reference = wrong refl;
  chosen_below_reference = wrong refl;
  reference = right refl;
  reference_as_number = wrong refl;
  reference_in_sum = wrong refl;
  reference_again = right refl;
  reference_tested = right refl;
  after_jump_on_null = right refl;
  number_after_jump_on_null = wrong refl;
  jump_on_non_null = right refl;
  inside = right refl;
  inside_as_another = wrong refl;
  inside_of_reference = right refl;
  outside = right refl;
}
