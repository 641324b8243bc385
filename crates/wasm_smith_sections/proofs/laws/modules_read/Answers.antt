use Rattle.wasm_smith_sections.proofs.MadeSections.{module_reads}
use Rattle.wasm_smith_sections.proofs.ReadItems.{Laws}
use Rattle.wasm_smith_sections.proofs.laws.modules_read.Goals as goal

pub returns : goal.returns
returns c =
    let laws : Laws = record {
      tables = c.items_read.ensures.tables;
      globals = c.items_read.ensures.globals;
      elements = c.items_read.ensures.elements;
      segments = c.items_read.ensures.segments;
      bodies = c.bodies_read.ensures.section;
    } in
    module_reads laws
