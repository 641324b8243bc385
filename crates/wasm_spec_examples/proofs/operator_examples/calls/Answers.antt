use Rattle.std.proofs.Common.{refl}
use Rattle.wasm_spec_examples.proofs.RightBodies.{right, wrong}
use Rattle.wasm_spec_examples.proofs.operator_examples.calls.Goals as goal

pub returns : goal.returns
returns c = record {
  called = right refl;
  called_out_of_order = wrong refl;
  called_nothing = wrong refl;
  through_table = right refl;
  through_long_table = right refl;
  short_index = wrong refl;
  index_first = wrong refl;
  through_no_functions = wrong refl;
  through_no_table = wrong refl;
  through_narrower_table = right refl;
  of_a_structure = wrong refl;
  of_reference = (right refl, wrong refl);
  of_null = right refl;
  of_any_function = wrong refl;
  reference_last = right refl;
  of_array = wrong refl;
}
