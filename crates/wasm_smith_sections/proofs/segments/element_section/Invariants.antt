use Rattle.std.proofs.Common.{◌≡◌, ◌++◌, map, drop}
use Rattle.wasm_smith_definitions.specs.Items as items
use Rattle.wasm_smith_sections.specs.Contents.{element_bytes}
use Rattle.wasm_smith_sections.proofs.segments.element_section.Given as goal

abbrev pub invariant-loop-segment : goal.invariant-loop-segment
invariant-loop-segment l = record {
  kept : l.section ++ map element_bytes (map items.element_segment (drop l.segment-index l.segments)) ≡ map element_bytes (map items.element_segment l.segments);
}
