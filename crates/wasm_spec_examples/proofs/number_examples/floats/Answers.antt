use Rattle.std.proofs.Common.{arith, refl}
use Rattle.wasm_spec_examples.proofs.number_examples.floats.Goals as goal

pub returns : goal.returns
returns c = record {
  one_f32 = (search arith, refl, refl);
  one_f64 = (search arith, refl, refl);
  sign_f32 = (search arith, refl, refl);
  high_first = λ h. omega (arith, h.2);
  short = λ n h. omega (arith, h.1);
  long = λ n h. omega (arith, h.1);
}
