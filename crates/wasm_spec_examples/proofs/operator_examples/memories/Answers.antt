use Rattle.std.proofs.Common.{refl}
use Rattle.wasm_spec_examples.proofs.RightBodies.{right, wrong}
use Rattle.wasm_spec_examples.proofs.operator_examples.memories.Goals as goal

pub returns : goal.returns
returns c = record {
  size = right refl;
  long_size = right refl;
  size_of_none = wrong refl;
  grown = right refl;
  grown_by_another = wrong refl;
  filled = (right refl, wrong refl);
  long_filled = right refl;
  filled_with_another = wrong refl;
  copied = (right refl, wrong refl);
  copied_from_long = right refl;
  copied_to_long = right refl;
  copied_in_long = right refl;
  long_length = wrong refl;
  filled_from_data = (right refl, wrong refl);
  long_filled_from_data = right refl;
  filled_from_no_data = wrong refl;
  dropped = (right refl, wrong refl);
  dropped_none = wrong refl;
}
