use Rattle.std.proofs.Common.{refl}
use Rattle.wasm_spec_examples.proofs.RightBodies.{right, wrong}
use Rattle.wasm_spec_examples.proofs.operator_examples.tail_calls.Goals as goal

pub returns : goal.returns
returns c = record {
  called = (right refl, wrong refl);
  other_result = wrong refl;
  result_below = right refl;
  result_above = wrong refl;
  another_result = wrong refl;
  operands = right refl;
  other_operands = wrong refl;
  more_below = right refl;
  anything_after = right refl;
  through_table = (right refl, wrong refl);
  through_table_of_another_result = wrong refl;
  of_reference = (right refl, wrong refl);
  of_reference_to_another_result = wrong refl;
}
