use Rattle.std.proofs.Common.{[], ◌∷◌, pos, true, Some, inl, inr, refl, arith}
use Rattle.wasm_spec.specs.ConstantGrammar.{IsConstantExpression}
use Rattle.wasm_spec.specs.Constants.{I32Const}
use Rattle.wasm_spec.specs.Features.{CompactImports, has}
use Rattle.wasm_spec.specs.ModuleParts.{IsElementSegment, IsTable}
use Rattle.wasm_spec.specs.Syntax.{ActiveElement, ElementSection, ElementSegment, ExpressionItems, TableSection}
use Rattle.wasm_spec.specs.Types.{Abstract, Extern, Func}
use Rattle.wasm_spec.proofs.Encodings.{none, one, section, small}
use Rattle.wasm_validity.specs.Entries.{OfElement, OfTable}
use Rattle.wasm_validity.specs.Fronts.{complete}
use Rattle.wasm_validity_examples.specs.Examples.{one_table, reference}
use Rattle.wasm_validity_examples.proofs.ConstantSubtypes.{apart, itself}
use Rattle.wasm_validity_examples.proofs.element_examples.modules_with_tables.Goals as goal

pub returns-clause-valid : goal.returns-clause-valid
returns-clause-valid c = λ features references gc_types. record {
  rules = (
    record { type = refl; filled = refl; initialiser = tt },
    (record { type = rw references rw gc_types refl; filled = refl; initialiser = tt }, (record { items = (rw references rw gc_types refl, tt); mode = (itself, tt) }, tt)),
  );
  limits = (
    record { numbers = refl; types = λ limit p. p },
    (record { numbers = refl; types = λ limit p. p }, (record { numbers = refl; types = λ limit p. p }, tt)),
  );
}

pub returns-clause-other_table : goal.returns-clause-other_table
returns-clause-other_table c = λ features v. apart Extern Func refl v.rules.1.1.0.mode.0.heap

-- no references to what is outside, for the first table
abbrev segment : ElementSegment
segment = record { mode = ActiveElement (Some 0) (I32Const (pos 0) ∷ []); items = ExpressionItems (reference true (Abstract Extern)) [] }

segment_bytes : IsElementSegment (0x06 ∷ 0x00 ∷ 0x41 ∷ 0x00 ∷ 0x0b ∷ 0x6f ∷ 0x00 ∷ []) segment
segment_bytes =
    let offset : IsConstantExpression (0x41 ∷ 0x00 ∷ 0x0b ∷ []) (I32Const (pos 0) ∷ []) =
    (0x41 ∷ 0x00 ∷ [], refl, (0x41 ∷ 0x00 ∷ [], [], refl, (0x00 ∷ [], refl, inl (omega arith, omega arith, refl)), refl)) in (
      0x06 ∷ [],
      0x00 ∷ 0x41 ∷ 0x00 ∷ 0x0b ∷ 0x6f ∷ 0x00 ∷ [],
      refl,
      small 6 (omega arith),
      (
        0x00 ∷ [],
        0x41 ∷ 0x00 ∷ 0x0b ∷ 0x6f ∷ 0x00 ∷ [],
        refl,
        small 0 (omega arith),
        (0x41 ∷ 0x00 ∷ 0x0b ∷ [], 0x6f ∷ 0x00 ∷ [], refl, offset, (0x6f ∷ [], 0x00 ∷ [], refl, inr refl, none IsConstantExpression)),
      ),
    )

pub returns-clause-by_bytes : goal.returns-clause-by_bytes
returns-clause-by_bytes c = λ features rest. record {
  entries = OfTable one_table ∷ OfElement segment ∷ [];
  begins = complete (record {
    sections = TableSection (one_table ∷ []) ∷ ElementSection (segment ∷ []) ∷ [];
    front = 0x04 ∷ 0x04 ∷ 0x01 ∷ 0x70 ∷ 0x00 ∷ 0x01 ∷ 0x09 ∷ 0x08 ∷ 0x01 ∷ 0x06 ∷ 0x00 ∷ 0x41 ∷ 0x00 ∷ 0x0b ∷ 0x6f ∷ 0x00 ∷ [];
    rest = rest;
    begins = refl;
    holds = (
      0x04 ∷ 0x04 ∷ 0x01 ∷ 0x70 ∷ 0x00 ∷ 0x01 ∷ [],
      0x09 ∷ 0x08 ∷ 0x01 ∷ 0x06 ∷ 0x00 ∷ 0x41 ∷ 0x00 ∷ 0x0b ∷ 0x6f ∷ 0x00 ∷ [],
      refl,
      section (has features CompactImports) (0x04 ∷ []) (0x01 ∷ 0x70 ∷ 0x00 ∷ 0x01 ∷ []) (TableSection (one_table ∷ [])) (small 4 (omega arith))
          (one IsTable (0x70 ∷ 0x00 ∷ 0x01 ∷ []) one_table refl c.tables_and_globals.ensures.table),
      (
        0x09 ∷ 0x08 ∷ 0x01 ∷ 0x06 ∷ 0x00 ∷ 0x41 ∷ 0x00 ∷ 0x0b ∷ 0x6f ∷ 0x00 ∷ [],
        [],
        refl,
        section (has features CompactImports) (0x08 ∷ []) (0x01 ∷ 0x06 ∷ 0x00 ∷ 0x41 ∷ 0x00 ∷ 0x0b ∷ 0x6f ∷ 0x00 ∷ []) (ElementSection (segment ∷ [])) (small 8 (omega arith))
            (one IsElementSegment (0x06 ∷ 0x00 ∷ 0x41 ∷ 0x00 ∷ 0x0b ∷ 0x6f ∷ 0x00 ∷ []) segment refl segment_bytes),
        refl,
      ),
    );
    ordered = (omega arith, (omega arith, tt));
    say = refl;
  });
  breaks = λ k. apart Extern Func refl k.1.0.mode.0.heap;
}
