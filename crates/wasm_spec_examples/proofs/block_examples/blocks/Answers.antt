use Rattle.std.proofs.Common.{refl}
use Rattle.wasm_spec_examples.proofs.RightBodies.{right, wrong}
use Rattle.wasm_spec_examples.proofs.block_examples.blocks.Goals as goal

pub returns : goal.returns
returns c = record {
  empty = right refl;
  value = right refl;
  another_value = wrong refl;
  no_value = wrong refl;
  one_left = wrong refl;
  around = right refl;
  nothing_inside = wrong refl;
  parameters = (right refl, wrong refl);
  other_parameters = wrong refl;
  no_parameters = wrong refl;
  several = right refl;
  of_a_structure = wrong refl;
  of_no_type = wrong refl;
  of_a_float = (right refl, wrong refl);
  of_a_vector = (right refl, wrong refl);
  float = right refl;
  double = right refl;
  vector = right refl;
  of_no_reference = wrong refl;
  declared_result = right refl;
  no_sharper_result = wrong refl;
}
