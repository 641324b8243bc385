use Rattle.std.proofs.Common.{◌≡◌, ◌++◌, map, drop}
use Rattle.wasm_smith_definitions.specs.Items as items
use Rattle.wasm_smith_sections.specs.Contents.{data_bytes}
use Rattle.wasm_smith_sections.proofs.segments.data_section.Given as goal

abbrev pub invariant-loop-segment : goal.invariant-loop-segment
invariant-loop-segment l = record {
  kept : l.section ++ map data_bytes (map items.data_segment (drop l.segment-index l.segments)) ≡ map data_bytes (map items.data_segment l.segments);
}
