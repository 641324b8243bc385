use Rattle.std.proofs.Common.{[], ◌∷◌, inl, inr, arith, refl}
use Rattle.wasm_spec.proofs.Encodings.{small}
use Rattle.wasm_spec_examples.proofs.grammar_examples.tables_and_globals.Goals as goal

pub returns : goal.returns
returns c = record {
  table = (0x70 ∷ [], 0x00 ∷ 0x01 ∷ [], refl, inr refl, ((0x01 ∷ [], refl, (0x01 ∷ [], [], refl, (omega arith, omega arith, refl), ([], [], refl, refl, refl))), refl, refl));
  initialised = (0x00 ∷ 0x64 ∷ 0x70 ∷ 0x00 ∷ 0x01 ∷ 0xd2 ∷ 0x05 ∷ 0x0b ∷ [], refl, (0x64 ∷ 0x70 ∷ 0x00 ∷ 0x01 ∷ 0xd2 ∷ 0x05 ∷ 0x0b ∷ [], refl, (0x64 ∷ 0x70 ∷ 0x00 ∷ 0x01 ∷ [], 0xd2 ∷ 0x05 ∷ 0x0b ∷ [], refl, (0x64 ∷ 0x70 ∷ [], 0x00 ∷ 0x01 ∷ [], refl, (0x70 ∷ [], refl, refl), ((0x01 ∷ [], refl, (0x01 ∷ [], [], refl, (omega arith, omega arith, refl), ([], [], refl, refl, refl))), refl, refl)), (0xd2 ∷ 0x05 ∷ [], refl, (0xd2 ∷ 0x05 ∷ [], [], refl, (0x05 ∷ [], refl, small 5 (omega arith)), refl)))));
  global = (0x7f ∷ 0x01 ∷ [], 0x41 ∷ 0x00 ∷ 0x0b ∷ [], refl, (0x7f ∷ [], 0x01 ∷ [], refl, refl, refl), (0x41 ∷ 0x00 ∷ [], refl, (0x41 ∷ 0x00 ∷ [], [], refl, (0x00 ∷ [], refl, inl (omega arith, omega arith, refl)), refl)));
  tag = (0x05 ∷ [], refl, small 5 (omega arith));
}
