use Rattle.std.proofs.Common.{[], ◌∷◌, pos, inl, inr, arith, refl}
use Rattle.wasm_spec_examples.proofs.grammar_examples.references.Goals as goal

pub returns : goal.returns
returns c = record {
  bare = inr refl;
  written_out = inl (0x70 ∷ [], refl, refl);
  not_null = (0x70 ∷ [], refl, refl);
  concrete = inl (0xe4 ∷ 0x00 ∷ [], refl, (omega arith, omega arith, omega arith, (pos 0), refl, inl (omega arith, omega arith, refl)));
  large = (omega arith, omega arith, omega arith, (pos 8192), refl, (omega arith, omega arith, omega arith, (pos 64), refl, (omega arith, omega arith, omega arith, (pos 0), refl, inl (omega arith, omega arith, refl))));
  padded = (omega arith, omega arith, omega arith, (pos 0), refl, (omega arith, omega arith, omega arith, (pos 0), refl, (omega arith, omega arith, omega arith, (pos 0), refl, (omega arith, omega arith, omega arith, (pos 0), refl, inl (omega arith, omega arith, refl)))));
}
