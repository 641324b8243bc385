use Rattle.std.proofs.Common.{◌≡◌, ◌++◌, map, drop}
use Rattle.wasm_smith_definitions.specs.Items as items
use Rattle.wasm_smith_sections.specs.Contents.{table_bytes}
use Rattle.wasm_smith_sections.proofs.sections.table_section.Given as goal

abbrev pub invariant-loop-table : goal.invariant-loop-table
invariant-loop-table l = record {
  kept : l.section ++ map table_bytes (map items.table (drop l.table-index l.tables)) ≡ map table_bytes (map items.table l.tables);
}
