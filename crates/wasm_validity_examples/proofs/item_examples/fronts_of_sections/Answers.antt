use Rattle.std.proofs.Common.{[], ◌∷◌, length, refl, arith, ap, length-append}
use Rattle.wasm_spec.specs.Syntax.{GlobalSection, TagSection}
use Rattle.wasm_spec.specs.Types.{MemoryKind}
use Rattle.wasm_validity.specs.Entries.{OfData, OfElement, OfExport, OfGlobal, OfTable, OfTag}
use Rattle.wasm_validity_examples.specs.Examples.{export_of, one_table}
use Rattle.wasm_validity_examples.specs.ItemExamples.{functions_in_table_3, two_bytes, variable_of_0}
use Rattle.wasm_validity_examples.proofs.FrontParts.{one_item, stated}
use Rattle.wasm_validity_examples.proofs.item_examples.fronts_of_sections.Goals as goal

pub returns-clause-tables : goal.returns-clause-tables
returns-clause-tables c = λ compact rest.
    one_item compact 4 5 (0x70 ∷ 0x00 ∷ 0x01 ∷ []) (0xff ∷ rest) (OfTable one_table) (omega arith) (omega arith) (omega arith) (refl, c.tables_and_globals.ensures.table)

pub returns-clause-globals : goal.returns-clause-globals
returns-clause-globals c = λ compact rest.
    one_item compact 6 7 (0x7f ∷ 0x01 ∷ 0x41 ∷ 0x00 ∷ 0x0b ∷ []) (0xff ∷ rest) (OfGlobal variable_of_0) (omega arith) (omega arith) (omega arith) (refl, c.tables_and_globals.ensures.global)

pub returns-clause-exports : goal.returns-clause-exports
returns-clause-exports c = λ compact rest.
    one_item compact 7 7 (0x01 ∷ 0x61 ∷ 0x02 ∷ 0x80 ∷ 0x00 ∷ []) (0xff ∷ rest) (OfExport (export_of (0x61 ∷ []) MemoryKind 0)) (omega arith) (omega arith) (omega arith)
    (refl, c.imports_and_exports.ensures.export)

pub returns-clause-elements : goal.returns-clause-elements
returns-clause-elements c = λ compact rest.
    one_item compact 9 12 (0x06 ∷ 0x03 ∷ 0x41 ∷ 0x00 ∷ 0x0b ∷ 0x70 ∷ 0x01 ∷ 0xd2 ∷ 0x05 ∷ 0x0b ∷ []) (0xff ∷ rest) (OfElement functions_in_table_3) (omega arith) (omega arith) (omega arith)
    (refl, c.element_segments.ensures.form_6)

pub returns-clause-segments : goal.returns-clause-segments
returns-clause-segments c = λ compact rest.
    one_item compact 11 9 (0x00 ∷ 0x41 ∷ 0x00 ∷ 0x0b ∷ 0x02 ∷ 0x68 ∷ 0x69 ∷ []) (0xff ∷ rest) (OfData two_bytes) (omega arith) (omega arith) (omega arith) (refl, c.data_segments.ensures.form_0)

pub returns-clause-tags : goal.returns-clause-tags
returns-clause-tags c = λ compact rest. one_item compact 13 4 (0x00 ∷ 0x05 ∷ []) (0xff ∷ rest) (OfTag 5) (omega arith) (omega arith) (omega arith) (refl, c.tables_and_globals.ensures.tag)

pub returns-clause-tag_section : goal.returns-clause-tag_section
returns-clause-tag_section c = λ compact rest. record {
  before = [];
  complete = record { sections = []; front = []; rest = 0x0d ∷ 0x04 ∷ 0x02 ∷ 0x00 ∷ 0x05 ∷ 0xff ∷ rest; begins = refl; holds = refl; ordered = tt; say = refl };
  like = TagSection [];
  comes_after = omega arith;
  items = OfTag 5 ∷ [];
  begun = one_item compact 13 4 (0x00 ∷ 0x05 ∷ []) (0xff ∷ rest) (OfTag 5) (omega arith) (omega arith) (omega arith) (refl, c.tables_and_globals.ensures.tag);
  say = refl;
}

pub returns-clause-global_section : goal.returns-clause-global_section
returns-clause-global_section c = λ compact rest. record {
  before = [];
  complete = record {
    sections = [];
    front = [];
    rest = 0x06 ∷ 0x07 ∷ 0x02 ∷ 0x7f ∷ 0x01 ∷ 0x41 ∷ 0x00 ∷ 0x0b ∷ 0xff ∷ rest;
    begins = refl;
    holds = refl;
    ordered = tt;
    say = refl;
  };
  like = GlobalSection [];
  comes_after = omega arith;
  items = OfGlobal variable_of_0 ∷ [];
  begun = one_item compact 6 7 (0x7f ∷ 0x01 ∷ 0x41 ∷ 0x00 ∷ 0x0b ∷ []) (0xff ∷ rest) (OfGlobal variable_of_0) (omega arith) (omega arith) (omega arith) (refl, c.tables_and_globals.ensures.global);
  say = refl;
}

pub returns-clause-cut_table : goal.returns-clause-cut_table
returns-clause-cut_table c = λ compact b.
    let n = stated compact 4 5 2 (0x70 ∷ 0x00 ∷ 0x01 ∷ []) (OfTable one_table ∷ []) b (omega arith) (omega arith) in
    omega (arith, n.size_is, n.one, ap length n.left, length-append b.encoding b.rest, b.framed)

pub returns-clause-cut_global : goal.returns-clause-cut_global
returns-clause-cut_global c = λ compact entries b.
    let n = stated compact 6 7 2 (0x7f ∷ 0x01 ∷ 0x41 ∷ 0x00 ∷ 0x0b ∷ []) entries b (omega arith) (omega arith) in
    omega (arith, n.size_is, n.one, ap length n.left, length-append b.encoding b.rest, b.framed)

pub returns-clause-not_stated : goal.returns-clause-not_stated
returns-clause-not_stated c = λ compact rest entry b. let n = stated compact 9 5 0 rest (entry ∷ []) b (omega arith) (omega arith) in omega (arith, n.count_is, b.among)
