use Rattle.std.proofs.Common.{◌+◌, ◌-◌, ◌^◌, ◌<◌, ◌≤◌, ℕ, ℤ, pos, negsuc, inl, inr, arith, refl}
use Rattle.wasm_spec.specs.Bytes.{IsLastSigned}
use Rattle.wasm_spec_examples.proofs.number_examples.signed_bounds.Goals as goal

wrong : (bits b : ℕ) (z : ℤ) → 2 ^ (bits - 1) ≤ b → b + 2 ^ (bits - 1) < 2 ^ 7 → ¬ (IsLastSigned bits b z)
wrong bits b z high low (inl h) = omega (arith, high, h.1)
wrong bits b z high low (inr h) = omega (arith, low, h.2)

pub returns : goal.returns
returns c = record {
  greatest_s32 = (omega arith, omega arith, omega arith, (pos 16777215), refl, (omega arith, omega arith, omega arith, (pos 131071), refl, (omega arith, omega arith, omega arith, (pos 1023), refl, (omega arith, omega arith, omega arith, (pos 7), refl, (inl (omega arith, omega arith, refl))))));
  least_s32 = (omega arith, omega arith, omega arith, (negsuc 16777215), refl, (omega arith, omega arith, omega arith, (negsuc 131071), refl, (omega arith, omega arith, omega arith, (negsuc 1023), refl, (omega arith, omega arith, omega arith, (negsuc 7), refl, (inr (omega arith, omega arith, omega arith, refl))))));
  above_s32 = λ z h. wrong 4 8 _ (omega arith) (omega arith) h.5.5.5.5;
  below_s32 = λ z h. wrong 4 119 _ (omega arith) (omega arith) h.5.5.5.5;
  padded_s32 = (omega arith, omega arith, omega arith, (negsuc 0), refl, (omega arith, omega arith, omega arith, (negsuc 0), refl, (omega arith, omega arith, omega arith, (negsuc 0), refl, (omega arith, omega arith, omega arith, (negsuc 0), refl, (inr (omega arith, omega arith, omega arith, refl))))));
  unused_bits_s32 = λ z h. wrong 4 15 _ (omega arith) (omega arith) h.5.5.5.5;
  too_long_s32 = λ z h. omega (arith, h.5.5.5.5.2);
  greatest_s33 = (omega arith, omega arith, omega arith, (pos 33554431), refl, (omega arith, omega arith, omega arith, (pos 262143), refl, (omega arith, omega arith, omega arith, (pos 2047), refl, (omega arith, omega arith, omega arith, (pos 15), refl, (inl (omega arith, omega arith, refl))))));
  least_s33 = (omega arith, omega arith, omega arith, (negsuc 33554431), refl, (omega arith, omega arith, omega arith, (negsuc 262143), refl, (omega arith, omega arith, omega arith, (negsuc 2047), refl, (omega arith, omega arith, omega arith, (negsuc 15), refl, (inr (omega arith, omega arith, omega arith, refl))))));
  above_s33 = λ z h. wrong 5 16 _ (omega arith) (omega arith) h.5.5.5.5;
  below_s33 = λ z h. wrong 5 111 _ (omega arith) (omega arith) h.5.5.5.5;
  padded_s33 = (omega arith, omega arith, omega arith, (negsuc 0), refl, (omega arith, omega arith, omega arith, (negsuc 0), refl, (omega arith, omega arith, omega arith, (negsuc 0), refl, (omega arith, omega arith, omega arith, (negsuc 0), refl, (inr (omega arith, omega arith, omega arith, refl))))));
  too_long_s33 = λ z h. omega (arith, h.5.5.5.5.2);
  greatest_s64 = (omega arith, omega arith, omega arith, (pos 72057594037927935), refl, (omega arith, omega arith, omega arith, (pos 562949953421311), refl, (omega arith, omega arith, omega arith, (pos 4398046511103), refl, (omega arith, omega arith, omega arith, (pos 34359738367), refl, (omega arith, omega arith, omega arith, (pos 268435455), refl, (omega arith, omega arith, omega arith, (pos 2097151), refl, (omega arith, omega arith, omega arith, (pos 16383), refl, (omega arith, omega arith, omega arith, (pos 127), refl, (omega arith, omega arith, omega arith, (pos 0), refl, (inl (omega arith, omega arith, refl)))))))))));
  least_s64 = (omega arith, omega arith, omega arith, (negsuc 72057594037927935), refl, (omega arith, omega arith, omega arith, (negsuc 562949953421311), refl, (omega arith, omega arith, omega arith, (negsuc 4398046511103), refl, (omega arith, omega arith, omega arith, (negsuc 34359738367), refl, (omega arith, omega arith, omega arith, (negsuc 268435455), refl, (omega arith, omega arith, omega arith, (negsuc 2097151), refl, (omega arith, omega arith, omega arith, (negsuc 16383), refl, (omega arith, omega arith, omega arith, (negsuc 127), refl, (omega arith, omega arith, omega arith, (negsuc 0), refl, (inr (omega arith, omega arith, omega arith, refl)))))))))));
  above_s64 = λ z h. wrong 1 1 _ (omega arith) (omega arith) h.5.5.5.5.5.5.5.5.5;
  below_s64 = λ z h. wrong 1 126 _ (omega arith) (omega arith) h.5.5.5.5.5.5.5.5.5;
  padded_s64 = (omega arith, omega arith, omega arith, (negsuc 0), refl, (omega arith, omega arith, omega arith, (negsuc 0), refl, (omega arith, omega arith, omega arith, (negsuc 0), refl, (omega arith, omega arith, omega arith, (negsuc 0), refl, (omega arith, omega arith, omega arith, (negsuc 0), refl, (omega arith, omega arith, omega arith, (negsuc 0), refl, (omega arith, omega arith, omega arith, (negsuc 0), refl, (omega arith, omega arith, omega arith, (negsuc 0), refl, (omega arith, omega arith, omega arith, (negsuc 0), refl, (inr (omega arith, omega arith, omega arith, refl)))))))))));
  too_long_s64 = λ z h. omega (arith, h.5.5.5.5.5.5.5.5.5.2);
}
