use Rattle.std.proofs.Common.{List, [], ◌∷◌, refl, arith, subst}
use Rattle.wasm_bodies.specs.Bodies.{done, in_function, simple}
use Rattle.wasm_bodies.specs.OperatorGrammar.{IsOperators}
use Rattle.wasm_bodies.specs.Operators.{End, MemoryInit, Unreachable}
use Rattle.wasm_spec.proofs.Encodings.{small}
use Rattle.wasm_spec.specs.Features.{Features}
use Rattle.wasm_spec.specs.Syntax.{CodeSection, DataCountSection, DataSection, FunctionSection, MemorySection, PassiveData, Section, TypeSection, types_of}
use Rattle.wasm_spec_examples.proofs.SmallOperators.{of_prefix}
use Rattle.wasm_spec_examples.specs.Examples.{at_least}
use Rattle.wasm_spec_examples.specs.TypeExamples.{takes}
use Rattle.wasm_validity.specs.ModuleBodies.{BodyAt, items_in}
use Rattle.wasm_validity.specs.Modules.{IsTypedBody}
use Rattle.wasm_validity.specs.Validity.{context_of}
use Rattle.wasm_validity_examples.proofs.ReadBodies.{memory_init_first, unreachable_first}
use Rattle.wasm_validity_examples.proofs.SmallBodies.{IsRest, body_of, just_end, none_given, stepped, unreachable_is}
use Rattle.wasm_validity_examples.proofs.SmallModules.{at_one, begins, first_read, first_told, no_result_kept, no_result_passes_none}
use Rattle.wasm_validity_examples.specs.ModuleExamples.{no_result}
use Rattle.wasm_validity_examples.proofs.module_examples.data_counts.Goals as goal

abbrev counted : List Section
counted =
    TypeSection (no_result ∷ []) ∷ FunctionSection (0 ∷ []) ∷ MemorySection (at_least 1 ∷ []) ∷ DataCountSection 1
    ∷ CodeSection ((0x00 ∷ 0x00 ∷ 0xfc ∷ 0x08 ∷ 0x00 ∷ 0x00 ∷ 0x0b ∷ []) ∷ []) ∷ DataSection (record { mode = PassiveData; contents = [] } ∷ []) ∷ []

abbrev uncounted : List Section
uncounted =
    TypeSection (no_result ∷ []) ∷ FunctionSection (0 ∷ []) ∷ MemorySection (at_least 1 ∷ [])
    ∷ CodeSection ((0x00 ∷ 0x00 ∷ 0xfc ∷ 0x08 ∷ 0x00 ∷ 0x00 ∷ 0x0b ∷ []) ∷ []) ∷ DataSection (record { mode = PassiveData; contents = [] } ∷ []) ∷ []

copy_is : (features : Features) → IsOperators features (0x00 ∷ 0xfc ∷ 0x08 ∷ 0x00 ∷ 0x00 ∷ 0x0b ∷ []) (Unreachable ∷ MemoryInit 0 0 ∷ End ∷ [])
copy_is features = (
  0x00 ∷ [],
  0xfc ∷ 0x08 ∷ 0x00 ∷ 0x00 ∷ 0x0b ∷ [],
  refl,
  unreachable_is features,
  (
    0xfc ∷ 0x08 ∷ 0x00 ∷ 0x00 ∷ [],
    0x0b ∷ [],
    refl,
    of_prefix features 0xfc 8 (0x00 ∷ 0x00 ∷ []) (MemoryInit 0 0) refl (omega arith) refl
        (0x00 ∷ [], 0x00 ∷ [], refl, small 0 (omega arith), small 0 (omega arith)),
    just_end features,
  ),
)

pub returns : goal.returns
returns c = record {
  counted = λ features on. record {
    fine = record { rules = (no_result_kept features _, (refl, (refl, (on, (tt, (on, tt)))))); limits = (record { numbers = refl; types = no_result_passes_none [] }, (record { numbers = refl; types = λ limit p. p }, (record { numbers = refl; types = λ limit p. p }, (record { numbers = refl; types = λ limit p. p }, (record { numbers = refl; types = λ limit p. p }, (record { numbers = refl; types = λ limit p. p }, tt)))))) };
    bodies = at_one (BodyAt (IsTypedBody features counted) counted)
        (record {
          index = 0;
          type = takes [];
          body = 0x00 ∷ 0x00 ∷ 0xfc ∷ 0x08 ∷ 0x00 ∷ 0x00 ∷ 0x0b ∷ [];
          indexed = refl;
          named = refl;
          has = refl;
          holds = λ is_below tells. body_of features _ (takes []) (simple Unreachable (simple (MemoryInit 0 0) done)) (0x00 ∷ 0xfc ∷ 0x08 ∷ 0x00 ∷ 0x00 ∷ 0x0b ∷ []) (omega arith) (copy_is features) (rw on refl);
        });
  };
  uncounted = λ features v.
      let r = first_read features uncounted 0 (takes []) (0x00 ∷ 0xfc ∷ 0x08 ∷ 0x00 ∷ 0x00 ∷ 0x0b ∷ []) first_told v (omega arith) refl refl refl in
      let cx = in_function features (items_in (types_of uncounted) (context_of uncounted) r.is_below) (takes []) r.read.runs in
      let f = unreachable_first features (0xfc ∷ 0x08 ∷ 0x00 ∷ 0x00 ∷ 0x0b ∷ []) r.read.operators r.read.spelled in
      let g = memory_init_first features (0x0b ∷ []) f.0 f.2 in
      let s = begins features _ (takes []) (0x00 ∷ 0xfc ∷ 0x08 ∷ 0x00 ∷ 0x00 ∷ 0x0b ∷ []) r.read Unreachable f.0 f.1 refl in
      let t = stepped cx s.0 (MemoryInit 0 0) g.0 refl (subst (λ l. IsRest cx s.0 l) g.1 s.2) in
      none_given _ t.0 t.1;
}
