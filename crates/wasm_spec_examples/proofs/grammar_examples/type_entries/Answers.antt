use Rattle.std.proofs.Common.{[], ◌∷◌, inl, inr, arith, refl}
use Rattle.wasm_spec.proofs.Encodings.{small}
use Rattle.wasm_spec_examples.proofs.grammar_examples.type_entries.Goals as goal

pub returns : goal.returns
returns c = record {
  bare = inr (refl, refl, (0x00 ∷ 0x00 ∷ [], refl, (0x00 ∷ [], 0x00 ∷ [], refl, (0x00 ∷ [], [], refl, small 0 (omega arith), refl), (0x00 ∷ [], [], refl, small 0 (omega arith), refl))));
  final_alone = inl (0x00 ∷ 0x60 ∷ 0x00 ∷ 0x00 ∷ [], refl, (0x00 ∷ [], 0x60 ∷ 0x00 ∷ 0x00 ∷ [], refl, (0x00 ∷ [], [], refl, small 0 (omega arith), refl), (0x00 ∷ 0x00 ∷ [], refl, (0x00 ∷ [], 0x00 ∷ [], refl, (0x00 ∷ [], [], refl, small 0 (omega arith), refl), (0x00 ∷ [], [], refl, small 0 (omega arith), refl)))));
  below_two = inl (0x02 ∷ 0x00 ∷ 0x01 ∷ 0x60 ∷ 0x00 ∷ 0x00 ∷ [], refl, (0x02 ∷ 0x00 ∷ 0x01 ∷ [], 0x60 ∷ 0x00 ∷ 0x00 ∷ [], refl, (0x02 ∷ [], 0x00 ∷ 0x01 ∷ [], refl, small 2 (omega arith), (0x00 ∷ [], 0x01 ∷ [], refl, small 0 (omega arith), (0x01 ∷ [], [], refl, small 1 (omega arith), refl))), (0x00 ∷ 0x00 ∷ [], refl, (0x00 ∷ [], 0x00 ∷ [], refl, (0x00 ∷ [], [], refl, small 0 (omega arith), refl), (0x00 ∷ [], [], refl, small 0 (omega arith), refl)))));
  structure = inr (refl, refl, (0x02 ∷ 0x77 ∷ 0x00 ∷ 0x64 ∷ 0x00 ∷ 0x01 ∷ [], refl, (0x02 ∷ [], 0x77 ∷ 0x00 ∷ 0x64 ∷ 0x00 ∷ 0x01 ∷ [], refl, small 2 (omega arith), (0x77 ∷ 0x00 ∷ [], 0x64 ∷ 0x00 ∷ 0x01 ∷ [], refl, (0x77 ∷ [], 0x00 ∷ [], refl, refl, refl), (0x64 ∷ 0x00 ∷ 0x01 ∷ [], [], refl, (0x64 ∷ 0x00 ∷ [], 0x01 ∷ [], refl, (0x00 ∷ [], refl, inl (omega arith, omega arith, refl)), refl), refl)))));
  array = inr (refl, refl, (0x78 ∷ 0x01 ∷ [], refl, (0x78 ∷ [], 0x01 ∷ [], refl, refl, refl)));
  continuation = inr (refl, refl, (0x00 ∷ [], refl, inl (omega arith, omega arith, refl)));
  group_of_none = (0x00 ∷ [], refl, (0x00 ∷ [], [], refl, small 0 (omega arith), refl));
  group_of_one = (0x01 ∷ 0x60 ∷ 0x00 ∷ 0x00 ∷ [], refl, (0x01 ∷ [], 0x60 ∷ 0x00 ∷ 0x00 ∷ [], refl, small 1 (omega arith), (0x60 ∷ 0x00 ∷ 0x00 ∷ [], [], refl, inr (refl, refl, (0x00 ∷ 0x00 ∷ [], refl, (0x00 ∷ [], 0x00 ∷ [], refl, (0x00 ∷ [], [], refl, small 0 (omega arith), refl), (0x00 ∷ [], [], refl, small 0 (omega arith), refl)))), refl)));
}
