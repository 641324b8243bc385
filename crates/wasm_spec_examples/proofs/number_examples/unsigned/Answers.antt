use Rattle.std.proofs.Common.{arith, refl}
use Rattle.wasm_spec_examples.proofs.number_examples.unsigned.Goals as goal

pub returns : goal.returns
returns c = record {
  one_byte = (omega arith, omega arith, refl);
  two_bytes = (omega arith, omega arith, omega arith, 1, refl, (omega arith, omega arith, refl));
  cut = λ n h. omega (arith, h.0, h.1);
  unused_bits = λ n h. omega (arith, h.5.5.5.5.0, h.5.5.5.5.1);
  greatest = (omega arith, omega arith, omega arith, 144115188075855871, refl, (omega arith, omega arith, omega arith, 1125899906842623, refl, (omega arith, omega arith, omega arith, 8796093022207, refl, (omega arith, omega arith, omega arith, 68719476735, refl, (omega arith, omega arith, omega arith, 536870911, refl, (omega arith, omega arith, omega arith, 4194303, refl, (omega arith, omega arith, omega arith, 32767, refl, (omega arith, omega arith, omega arith, 255, refl, (omega arith, omega arith, omega arith, 1, refl, (omega arith, omega arith, refl))))))))));
  padded = (omega arith, omega arith, omega arith, 0, refl, (omega arith, omega arith, omega arith, 0, refl, (omega arith, omega arith, omega arith, 0, refl, (omega arith, omega arith, omega arith, 0, refl, (omega arith, omega arith, omega arith, 0, refl, (omega arith, omega arith, omega arith, 0, refl, (omega arith, omega arith, omega arith, 0, refl, (omega arith, omega arith, omega arith, 0, refl, (omega arith, omega arith, omega arith, 0, refl, (omega arith, omega arith, refl))))))))));
  past_64_bits = λ n h. omega (arith, h.5.5.5.5.5.5.5.5.5.0, h.5.5.5.5.5.5.5.5.5.1);
  too_long = λ n h. omega (arith, h.5.5.5.5.5.5.5.5.5.2);
}
