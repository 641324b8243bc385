use Rattle.std.proofs.Common.{List, [], ◌∷◌, refl, arith}
use Rattle.wasm_bodies.specs.Bodies.{done, simple}
use Rattle.wasm_bodies.specs.OperatorGrammar.{IsOperators}
use Rattle.wasm_bodies.specs.Operators.{Drop, ElemDrop, End, TableSize}
use Rattle.wasm_spec.proofs.Encodings.{small}
use Rattle.wasm_spec.specs.Features.{Features}
use Rattle.wasm_spec.specs.Syntax.{CodeSection, ElementSection, FunctionItems, FunctionSection, PassiveElement, Section, TableSection, TypeSection}
use Rattle.wasm_spec_examples.proofs.SmallOperators.{of_byte, of_prefix}
use Rattle.wasm_spec_examples.specs.TypeExamples.{takes}
use Rattle.wasm_validity.specs.ModuleBodies.{BodyAt}
use Rattle.wasm_validity.specs.Modules.{IsTypedBody}
use Rattle.wasm_validity_examples.proofs.ReadBodies.{elem_drop_first, table_size_first}
use Rattle.wasm_validity_examples.proofs.SmallBodies.{body_of, just_end, none_given}
use Rattle.wasm_validity_examples.proofs.SmallModules.{at_one, begins, first_read, first_told, no_result_kept, no_result_passes_none}
use Rattle.wasm_validity_examples.specs.ModuleExamples.{no_result, one_function}
use Rattle.wasm_validity_examples.specs.Examples.{one_table}
use Rattle.wasm_validity_examples.proofs.module_examples.tables.Goals as goal

abbrev seen : List Section
seen =
    TypeSection (no_result ∷ []) ∷ FunctionSection (0 ∷ []) ∷ TableSection (one_table ∷ []) ∷ ElementSection (record { mode = PassiveElement; items = FunctionItems [] } ∷ [])
    ∷ CodeSection ((0x00 ∷ 0xfc ∷ 0x10 ∷ 0x00 ∷ 0x1a ∷ 0xfc ∷ 0x0d ∷ 0x00 ∷ 0x0b ∷ []) ∷ []) ∷ []

operators_are : (features : Features) → IsOperators features (0xfc ∷ 0x10 ∷ 0x00 ∷ 0x1a ∷ 0xfc ∷ 0x0d ∷ 0x00 ∷ 0x0b ∷ []) (TableSize 0 ∷ Drop ∷ ElemDrop 0 ∷ End ∷ [])
operators_are features = (
  0xfc ∷ 0x10 ∷ 0x00 ∷ [],
  0x1a ∷ 0xfc ∷ 0x0d ∷ 0x00 ∷ 0x0b ∷ [],
  refl,
  of_prefix features 0xfc 16 (0x00 ∷ []) (TableSize 0) refl (omega arith) refl (small 0 (omega arith)),
  (
    0x1a ∷ [],
    0xfc ∷ 0x0d ∷ 0x00 ∷ 0x0b ∷ [],
    refl,
    of_byte features 0x1a [] Drop refl (omega arith) refl refl,
    (0xfc ∷ 0x0d ∷ 0x00 ∷ [], 0x0b ∷ [], refl, of_prefix features 0xfc 13 (0x00 ∷ []) (ElemDrop 0) refl (omega arith) refl (small 0 (omega arith)), just_end features),
  ),
)

pub returns : goal.returns
returns c = record {
  seen = λ features references bulk. record {
    fine = record {
      rules = (no_result_kept features _, (refl, (record { type = refl; filled = refl; initialiser = tt }, (record { items = tt; mode = bulk }, (tt, tt)))));
      limits = (
        record { numbers = refl; types = no_result_passes_none [] },
        (
          record { numbers = refl; types = λ limit p. p },
          (record { numbers = refl; types = λ limit p. p }, (record { numbers = refl; types = λ limit p. p }, (record { numbers = refl; types = λ limit p. p }, tt))),
        ),
      );
    };
    bodies = at_one (BodyAt (IsTypedBody features seen) seen) (record {
      index = 0;
      type = takes [];
      body = 0x00 ∷ 0xfc ∷ 0x10 ∷ 0x00 ∷ 0x1a ∷ 0xfc ∷ 0x0d ∷ 0x00 ∷ 0x0b ∷ [];
      indexed = refl;
      named = refl;
      has = refl;
      holds = λ is_below tells. body_of features _ (takes []) (simple (TableSize 0) (simple Drop (simple (ElemDrop 0) done)))
          (0xfc ∷ 0x10 ∷ 0x00 ∷ 0x1a ∷ 0xfc ∷ 0x0d ∷ 0x00 ∷ 0x0b ∷ []) (omega arith) (operators_are features) (rw (references, bulk) refl);
    });
  };
  no_table = λ features v.
      let r = first_read features (one_function (no_result ∷ []) 0 (0x00 ∷ 0xfc ∷ 0x10 ∷ 0x00 ∷ 0x1a ∷ 0x0b ∷ [])) 0 (takes []) (0xfc ∷ 0x10 ∷ 0x00 ∷ 0x1a ∷ 0x0b ∷ [])
      first_told v (omega arith) refl refl refl in
      let f = table_size_first features 0 (0x1a ∷ 0x0b ∷ []) r.read.operators (omega arith) r.read.spelled in
      let s = begins features _ (takes []) (0xfc ∷ 0x10 ∷ 0x00 ∷ 0x1a ∷ 0x0b ∷ []) r.read (TableSize 0) f.0 f.1 refl in
      none_given _ s.0 s.1;
  no_segment = λ features v.
      let r = first_read features (one_function (no_result ∷ []) 0 (0x00 ∷ 0xfc ∷ 0x0d ∷ 0x00 ∷ 0x0b ∷ [])) 0 (takes []) (0xfc ∷ 0x0d ∷ 0x00 ∷ 0x0b ∷ [])
      first_told v (omega arith) refl refl refl in
      let f = elem_drop_first features 0 (0x0b ∷ []) r.read.operators (omega arith) r.read.spelled in
      let s = begins features _ (takes []) (0xfc ∷ 0x0d ∷ 0x00 ∷ 0x0b ∷ []) r.read (ElemDrop 0) f.0 f.1 refl in
      none_given _ s.0 s.1;
}
