use Rattle.std.proofs.Common.{refl}
use Rattle.wasm_spec_examples.proofs.RightBodies.{right, wrong}
use Rattle.wasm_spec_examples.proofs.operator_examples.gates_of_scalars.Goals as goal

pub returns : goal.returns
returns c = record {
  none = right refl;
  comparison = (right refl, wrong refl);
  double_comparison = (right refl, wrong refl);
  float_sum = (right refl, wrong refl);
  double_sum = (right refl, wrong refl);
  from_float = (right refl, wrong refl);
  to_float = (right refl, wrong refl);
  extended = (right refl, wrong refl);
  large_extended = (right refl, wrong refl);
  saturated = (right refl, wrong refl);
  saturated_floats = (right refl, wrong refl);
  loaded = (right refl, wrong refl);
  stored = (right refl, wrong refl);
}
