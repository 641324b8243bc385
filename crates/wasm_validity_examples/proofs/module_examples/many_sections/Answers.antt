use Rattle.std.proofs.Common.{List, [], ◌∷◌, refl}
use Rattle.wasm_spec.specs.Syntax.{CodeSection, DataSection, FunctionSection, ImportSection, MemorySection, Section, StartSection, TableSection, TagSection, TypeSection}
use Rattle.wasm_spec_examples.specs.Examples.{at_least}
use Rattle.wasm_spec_examples.specs.TypeExamples.{takes}
use Rattle.wasm_validity.specs.ModuleBodies.{BodyAt}
use Rattle.wasm_validity.specs.Modules.{IsTypedBody}
use Rattle.wasm_validity_examples.proofs.SmallBodies.{empty_body}
use Rattle.wasm_validity_examples.proofs.SmallModules.{at_one, no_result_kept, no_result_passes_none}
use Rattle.wasm_validity_examples.specs.ModuleExamples.{no_result}
use Rattle.wasm_validity_examples.proofs.module_examples.many_sections.Goals as goal

abbrev many : List Section
many =
    TypeSection (no_result ∷ []) ∷ ImportSection [] ∷ FunctionSection (0 ∷ []) ∷ TableSection [] ∷ MemorySection (at_least 1 ∷ [])
    ∷ TagSection (0 ∷ []) ∷ StartSection 0 ∷ CodeSection ((0x00 ∷ 0x0b ∷ []) ∷ []) ∷ DataSection [] ∷ []

pub returns : goal.returns
returns c = record {
  valid = λ features exceptions. record {
    fine = record { rules = (no_result_kept features _, (refl, (refl, (exceptions, (rw exceptions refl, (refl, (tt, tt))))))); limits = (record { numbers = refl; types = no_result_passes_none [] }, (record { numbers = refl; types = λ limit p. p }, (record { numbers = refl; types = λ limit p. p }, (record { numbers = refl; types = λ limit p. p }, (record { numbers = refl; types = λ limit p. p }, (record { numbers = refl; types = λ limit p. p }, (record { numbers = refl; types = λ limit p. p }, tt))))))) };
    bodies = at_one (BodyAt (IsTypedBody features many) many) (record {
      index = 0;
      type = takes [];
      body = 0x00 ∷ 0x0b ∷ [];
      indexed = refl;
      named = refl;
      has = refl;
      holds = λ is_below tells. empty_body features _;
    });
  };
}
