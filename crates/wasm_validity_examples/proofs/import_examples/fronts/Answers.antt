use Rattle.std.proofs.Common.{[], ◌∷◌, arith, refl}
use Rattle.wasm_spec.specs.Features.{CompactImports, has}
use Rattle.wasm_spec.specs.Syntax.{ImportSection, Import}
use Rattle.wasm_spec.specs.Types.{FuncExternal}
use Rattle.wasm_spec.proofs.Encodings.{small}
use Rattle.wasm_validity.specs.Entries.{OfImport}
use Rattle.wasm_validity.specs.Fronts.{within}
use Rattle.wasm_validity_examples.proofs.import_examples.fronts.Goals as goal

pub returns : goal.returns
returns c = record {
  no_type = λ features rest. record {
    entries = OfImport (Import (0x6d ∷ []) (0x66 ∷ []) (FuncExternal 5)) ∷ [];
    begins = within (record {
      before = [];
      complete = record { sections = []; front = []; rest = 0x02 ∷ 0x07 ∷ 0x01 ∷ 0x01 ∷ 0x6d ∷ 0x01 ∷ 0x66 ∷ 0x00 ∷ 0x05 ∷ rest; begins = refl; holds = refl; ordered = tt; say = refl };
      like = ImportSection [];
      comes_after = omega arith;
      items = OfImport (Import (0x6d ∷ []) (0x66 ∷ []) (FuncExternal 5)) ∷ [];
      begun = record {
        stated = 1;
        size = 7;
        size_encoding = 0x07 ∷ [];
        count_encoding = 0x01 ∷ [];
        encoding = 0x01 ∷ 0x6d ∷ 0x01 ∷ 0x66 ∷ 0x00 ∷ 0x05 ∷ [];
        rest = rest;
        begins = refl;
        sized = small 7 (omega arith);
        inside = omega arith;
        framed = omega arith;
        counted = small 1 (omega arith);
        among = omega arith;
        holds = (0x01 ∷ 0x6d ∷ 0x01 ∷ 0x66 ∷ 0x00 ∷ 0x05 ∷ [], [], refl, (refl, c.imports_and_exports.ensures.function (has features CompactImports)), refl);
      };
      say = refl;
    });
    breaks = λ k. let f = k.0 in absurd cc;
  };
}
