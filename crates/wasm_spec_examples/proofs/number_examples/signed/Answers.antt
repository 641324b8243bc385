use Rattle.std.proofs.Common.{pos, negsuc, inl, inr, arith, refl}
use Rattle.wasm_spec_examples.proofs.number_examples.signed.Goals as goal

pub returns : goal.returns
returns c = record {
  nought = (inl (omega arith, omega arith, refl));
  one = (inl (omega arith, omega arith, refl));
  minus_one = (inr (omega arith, omega arith, omega arith, refl));
  greatest_of_a_byte = (inl (omega arith, omega arith, refl));
  above_a_byte = (omega arith, omega arith, omega arith, (pos 0), refl, (inl (omega arith, omega arith, refl)));
  least_of_a_byte = (inr (omega arith, omega arith, omega arith, refl));
  below_a_byte = (omega arith, omega arith, omega arith, (negsuc 0), refl, (inr (omega arith, omega arith, omega arith, refl)));
  seven_bits = (omega arith, omega arith, omega arith, (pos 0), refl, (inl (omega arith, omega arith, refl)));
  eight_bits = (omega arith, omega arith, omega arith, (pos 1), refl, (inl (omega arith, omega arith, refl)));
  cut = λ z h. elim h [ inl f ↦ omega (arith, f.0) | inr f ↦ omega (arith, f.1) ];
}
