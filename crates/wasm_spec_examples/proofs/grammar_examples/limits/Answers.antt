use Rattle.std.proofs.Common.{[], ◌∷◌, inr, arith, refl}
use Rattle.wasm_spec.proofs.Encodings.{small}
use Rattle.wasm_spec_examples.proofs.grammar_examples.limits.Goals as goal

pub returns : goal.returns
returns c = record {
  six_bytes = (0x81 ∷ 0x80 ∷ 0x80 ∷ 0x80 ∷ 0x80 ∷ 0x00 ∷ [], refl, (0x81 ∷ 0x80 ∷ 0x80 ∷ 0x80 ∷ 0x80 ∷ 0x00 ∷ [], [], refl, (omega arith, omega arith, omega arith, 0, refl, (omega arith, omega arith, omega arith, 0, refl, (omega arith, omega arith, omega arith, 0, refl, (omega arith, omega arith, omega arith, 0, refl, (omega arith, omega arith, omega arith, 0, refl, (omega arith, omega arith, refl)))))), ([], [], refl, refl, refl)));
  shared = (0x01 ∷ [], refl, (0x01 ∷ [], [], refl, (omega arith, omega arith, refl), ([], [], refl, refl, refl)));
  all_parts = (0x01 ∷ 0x02 ∷ 0x10 ∷ [], refl, (0x01 ∷ [], 0x02 ∷ 0x10 ∷ [], refl, (omega arith, omega arith, refl), (0x02 ∷ [], 0x10 ∷ [], refl, (omega arith, omega arith, refl), small 16 (omega arith))));
  pages = (0x01 ∷ 0x10 ∷ [], refl, (0x01 ∷ [], 0x10 ∷ [], refl, (omega arith, omega arith, refl), ([], 0x10 ∷ [], refl, refl, small 16 (omega arith))));
  table = (0x70 ∷ [], 0x00 ∷ 0x0a ∷ [], refl, inr refl, ((0x0a ∷ [], refl, (0x0a ∷ [], [], refl, (omega arith, omega arith, refl), ([], [], refl, refl, refl))), refl, refl));
  table_64 = (0x64 ∷ 0x70 ∷ [], 0x05 ∷ 0x01 ∷ 0x02 ∷ [], refl, (0x70 ∷ [], refl, refl), ((0x01 ∷ 0x02 ∷ [], refl, (0x01 ∷ [], 0x02 ∷ [], refl, (omega arith, omega arith, refl), (0x02 ∷ [], [], refl, (omega arith, omega arith, refl), refl))), refl, refl));
}
