use Rattle.std.proofs.Common.{refl}
use Rattle.wasm_spec_examples.proofs.RightBodies.{right, wrong}
use Rattle.wasm_spec_examples.proofs.operator_examples.constants.Goals as goal

pub returns : goal.returns
returns c = record {
  i32_number = right refl;
  i32_as_another = wrong refl;
  i64_number = right refl;
  i64_as_another = wrong refl;
  f32_number = (right refl, wrong refl);
  f64_number = (right refl, wrong refl);
  vector = (right refl, wrong refl);
  one_left = wrong refl;
  one_missing = wrong refl;
  in_order = right refl;
  not_in_order = wrong refl;
}
