use Rattle.std.proofs.Common.{refl}
use Rattle.wasm_spec_examples.proofs.RightBodies.{right, wrong}
use Rattle.wasm_spec_examples.proofs.operator_examples.aggregates.Goals as goal

pub returns : goal.returns
returns c = record {
  structure = (right refl, wrong refl);
  fields_out_of_order = wrong refl;
  structure_of_an_array = wrong refl;
  default_structure = (right refl, wrong refl);
  structure_without_default = wrong refl;
  array = (right refl, wrong refl);
  element_first = right refl;
  count_first = wrong refl;
  array_of_a_structure = wrong refl;
  default_array = (right refl, wrong refl);
  array_without_default = wrong refl;
  fixed_array = (right refl, wrong refl);
  fixed_array_of_one_less = wrong refl;
  empty_fixed_array = right refl;
  small_number = (right refl, wrong refl);
  small_number_of_a_large = wrong refl;
  inside = (right refl, wrong refl);
  inside_as_none = wrong refl;
  inside_of_number = wrong refl;
  inside_already = wrong refl;
  outside = (right refl, wrong refl);
  outside_of_number = wrong refl;
  outside_already = wrong refl;
}
