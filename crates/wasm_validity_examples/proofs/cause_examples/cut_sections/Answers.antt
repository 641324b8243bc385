use Rattle.std.proofs.Common.{[], ◌∷◌, refl, arith}
use Rattle.wasm_spec.specs.Syntax.{MemorySection}
use Rattle.wasm_spec.proofs.Encodings.{small}
use Rattle.wasm_validity.specs.Entries.{OfMemory}
use Rattle.wasm_validity.specs.Fronts.{within}
use Rattle.wasm_validity_examples.specs.Examples.{between}
use Rattle.wasm_validity_examples.proofs.cause_examples.cut_sections.Goals as goal

pub returns : goal.returns
returns c = record {
  crossed = λ features rest. record {
    entries = OfMemory (between 2 1) ∷ [];
    begins = within (record {
      before = [];
      complete = record { sections = []; front = []; rest = 0x05 ∷ 0x06 ∷ 0x02 ∷ 0x01 ∷ 0x02 ∷ 0x01 ∷ 0xff ∷ 0xff ∷ rest; begins = refl; holds = refl; ordered = tt; say = refl };
      like = MemorySection [];
      comes_after = omega arith;
      items = OfMemory (between 2 1) ∷ [];
      begun = record {
        stated = 2;
        size = 6;
        size_encoding = 0x06 ∷ [];
        count_encoding = 0x02 ∷ [];
        encoding = 0x01 ∷ 0x02 ∷ 0x01 ∷ [];
        rest = 0xff ∷ 0xff ∷ rest;
        begins = refl;
        sized = small 6 (omega arith);
        inside = omega arith;
        framed = omega arith;
        counted = small 2 (omega arith);
        among = omega arith;
        holds = (
          0x01 ∷ 0x02 ∷ 0x01 ∷ [],
          [],
          refl,
          (refl, (0x02 ∷ 0x01 ∷ [], refl, (0x02 ∷ [], 0x01 ∷ [], refl, (omega arith, omega arith, refl), (0x01 ∷ [], [], refl, (omega arith, omega arith, refl), refl)))),
          refl,
        );
      };
      say = refl;
    });
    breaks = λ k. let f = k.0 in absurd cc;
  };
}
