use Rattle.std.proofs.Common.{refl}
use Rattle.wasm_spec_examples.proofs.RightBodies.{right, wrong}
use Rattle.wasm_spec_examples.proofs.operator_examples.scalars.Goals as goal

pub returns : goal.returns
returns c = record {
  test = right refl;
  equal = right refl;
  at_least = right refl;
  large_test = right refl;
  large_equal = right refl;
  large_at_least = right refl;
  float_equal = right refl;
  float_at_least = right refl;
  double_equal = right refl;
  double_at_least = right refl;
  leading_zeros = right refl;
  ones = right refl;
  sum = right refl;
  sum_of_one = wrong refl;
  turned = right refl;
  large_leading_zeros = right refl;
  large_ones = right refl;
  large_sum = right refl;
  large_sum_of_small = wrong refl;
  large_turned = right refl;
  float_absolute = right refl;
  float_root = right refl;
  float_sum = right refl;
  float_sign = right refl;
  double_absolute = right refl;
  double_root = right refl;
  double_sum = right refl;
  double_sign = right refl;
}
