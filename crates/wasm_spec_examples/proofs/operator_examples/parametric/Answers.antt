use Rattle.std.proofs.Common.{refl}
use Rattle.wasm_spec_examples.proofs.RightBodies.{right, wrong}
use Rattle.wasm_spec_examples.proofs.operator_examples.parametric.Goals as goal

pub returns : goal.returns
returns c = record {
  nothing = right refl;
  dropped = right refl;
  dropped_reference = right refl;
  dropped_nothing = wrong refl;
  chosen = right refl;
  chosen_small = right refl;
  chosen_float = right refl;
  chosen_double = right refl;
  chosen_vector = right refl;
  chosen_of_two_types = wrong refl;
  chosen_by_another = wrong refl;
  chosen_of_references = wrong refl;
  typed = (right refl, wrong refl);
  typed_float = right refl;
  typed_double = right refl;
  typed_vector = right refl;
  typed_references = right refl;
  typed_as_another = wrong refl;
  typed_as_two = wrong refl;
  typed_as_none = wrong refl;
  typed_by_no_type = wrong refl;
  typed_without_floats = (right refl, wrong refl);
}
