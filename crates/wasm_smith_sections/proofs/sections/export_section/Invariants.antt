use Rattle.std.proofs.Common.{◌≡◌, ◌++◌, map, drop}
use Rattle.wasm_smith_definitions.specs.Items as items
use Rattle.wasm_smith_sections.proofs.sections.export_section.Given as goal

abbrev pub invariant-loop-export : goal.invariant-loop-export
invariant-loop-export l = record {
  kept : l.section ++ map items.export (drop l.export-index l.exports) ≡ map items.export l.exports;
}
