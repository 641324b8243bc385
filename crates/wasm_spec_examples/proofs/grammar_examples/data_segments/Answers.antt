use Rattle.std.proofs.Common.{[], ◌∷◌, inl, arith, refl}
use Rattle.wasm_spec.proofs.Encodings.{small}
use Rattle.wasm_spec_examples.proofs.grammar_examples.data_segments.Goals as goal

pub returns : goal.returns
returns c = record {
  form_0 = (0x00 ∷ [], 0x41 ∷ 0x00 ∷ 0x0b ∷ 0x02 ∷ 0x68 ∷ 0x69 ∷ [], refl, small 0 (omega arith), (0x41 ∷ 0x00 ∷ 0x0b ∷ [], 0x02 ∷ 0x68 ∷ 0x69 ∷ [], refl, (0x41 ∷ 0x00 ∷ [], refl, (0x41 ∷ 0x00 ∷ [], [], refl, (0x00 ∷ [], refl, inl (omega arith, omega arith, refl)), refl)), (0x02 ∷ [], 0x68 ∷ 0x69 ∷ [], refl, small 2 (omega arith), ((omega arith, (omega arith, tt)), refl))));
  form_1 = (0x01 ∷ [], 0x02 ∷ 0x68 ∷ 0x69 ∷ [], refl, small 1 (omega arith), (0x02 ∷ [], 0x68 ∷ 0x69 ∷ [], refl, small 2 (omega arith), ((omega arith, (omega arith, tt)), refl)));
  form_2 = (0x02 ∷ [], 0x00 ∷ 0x41 ∷ 0x00 ∷ 0x0b ∷ 0x02 ∷ 0x68 ∷ 0x69 ∷ [], refl, small 2 (omega arith), (0x00 ∷ [], 0x41 ∷ 0x00 ∷ 0x0b ∷ 0x02 ∷ 0x68 ∷ 0x69 ∷ [], refl, small 0 (omega arith), (0x41 ∷ 0x00 ∷ 0x0b ∷ [], 0x02 ∷ 0x68 ∷ 0x69 ∷ [], refl, (0x41 ∷ 0x00 ∷ [], refl, (0x41 ∷ 0x00 ∷ [], [], refl, (0x00 ∷ [], refl, inl (omega arith, omega arith, refl)), refl)), (0x02 ∷ [], 0x68 ∷ 0x69 ∷ [], refl, small 2 (omega arith), ((omega arith, (omega arith, tt)), refl)))));
  padded = (0x81 ∷ 0x00 ∷ [], 0x00 ∷ [], refl, (omega arith, omega arith, omega arith, 0, refl, (omega arith, omega arith, refl)), (0x00 ∷ [], [], refl, small 0 (omega arith), (tt, refl)));
}
