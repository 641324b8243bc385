use Rattle.std.proofs.Common.{List, [], ◌∷◌, refl, arith}
use Rattle.wasm_bodies.specs.Bodies.{done, simple}
use Rattle.wasm_bodies.specs.OperatorGrammar.{IsOperators}
use Rattle.wasm_bodies.specs.Operators.{Drop, End, RefFunc}
use Rattle.wasm_spec.proofs.Encodings.{small}
use Rattle.wasm_spec.specs.Features.{Features}
use Rattle.wasm_spec.specs.Syntax.{CodeSection, ExportSection, FunctionSection, Section, TypeSection}
use Rattle.wasm_spec.specs.Types.{FuncKind}
use Rattle.wasm_spec_examples.proofs.SmallOperators.{of_byte}
use Rattle.wasm_spec_examples.specs.TypeExamples.{takes}
use Rattle.wasm_validity.specs.ModuleBodies.{BodyAt}
use Rattle.wasm_validity.specs.Modules.{IsTypedBody}
use Rattle.wasm_validity_examples.proofs.ReadBodies.{ref_func_first}
use Rattle.wasm_validity_examples.proofs.SmallBodies.{body_of, just_end, none_given}
use Rattle.wasm_validity_examples.proofs.SmallModules.{at_one, begins, first_read, first_told, no_result_kept, no_result_passes_none}
use Rattle.wasm_validity_examples.specs.ModuleExamples.{no_result, one_function}
use Rattle.wasm_validity_examples.specs.Examples.{export_of}
use Rattle.wasm_validity_examples.proofs.module_examples.function_references.Goals as goal

abbrev exported : List Section
exported = TypeSection (no_result ∷ []) ∷ FunctionSection (0 ∷ []) ∷ ExportSection (export_of [] FuncKind 0 ∷ []) ∷ CodeSection ((0x00 ∷ 0xd2 ∷ 0x00 ∷ 0x1a ∷ 0x0b ∷ []) ∷ []) ∷ []

abbrev undeclared : List Section
undeclared = one_function (no_result ∷ []) 0 (0x00 ∷ 0xd2 ∷ 0x00 ∷ 0x1a ∷ 0x0b ∷ [])

reference_is : (features : Features) → IsOperators features (0xd2 ∷ 0x00 ∷ 0x1a ∷ 0x0b ∷ []) (RefFunc 0 ∷ Drop ∷ End ∷ [])
reference_is features = (
  0xd2 ∷ 0x00 ∷ [],
  0x1a ∷ 0x0b ∷ [],
  refl,
  of_byte features 0xd2 (0x00 ∷ []) (RefFunc 0) refl (omega arith) refl (small 0 (omega arith)),
  (0x1a ∷ [], 0x0b ∷ [], refl, of_byte features 0x1a [] Drop refl (omega arith) refl refl, just_end features),
)

pub returns : goal.returns
returns c = record {
  exported = λ features on. record {
    fine = record { rules = (no_result_kept features _, (refl, (refl, (tt, tt)))); limits = (record { numbers = refl; types = no_result_passes_none [] }, (record { numbers = refl; types = λ limit p. p }, (record { numbers = refl; types = λ limit p. p }, (record { numbers = refl; types = λ limit p. p }, tt)))) };
    bodies = at_one (BodyAt (IsTypedBody features exported) exported)
        (record {
          index = 0;
          type = takes [];
          body = 0x00 ∷ 0xd2 ∷ 0x00 ∷ 0x1a ∷ 0x0b ∷ [];
          indexed = refl;
          named = refl;
          has = refl;
          holds = λ is_below tells. body_of features _ (takes []) (simple (RefFunc 0) (simple Drop done)) (0xd2 ∷ 0x00 ∷ 0x1a ∷ 0x0b ∷ []) (omega arith) (reference_is features) (rw on refl);
        });
  };
  undeclared = λ features v.
      let r = first_read features undeclared 0 (takes []) (0xd2 ∷ 0x00 ∷ 0x1a ∷ 0x0b ∷ []) first_told v (omega arith) refl refl refl in
      let f = ref_func_first features 0 (0x1a ∷ 0x0b ∷ []) r.read.operators (omega arith) r.read.spelled in
      let s = begins features _ (takes []) (0xd2 ∷ 0x00 ∷ 0x1a ∷ 0x0b ∷ []) r.read (RefFunc 0) f.0 f.1 refl in
      none_given _ s.0 s.1;
}
