use Rattle.std.proofs.Common.{◌≡◌, ◌++◌, map, drop}
use Rattle.wasm_encoder_sections.specs.CoreItems.{memory_type}
use Rattle.wasm_smith_sections.proofs.sections.memory_section.Given as goal

abbrev pub invariant-loop-memory : goal.invariant-loop-memory
invariant-loop-memory l = record {
  kept : l.section ++ map memory_type (drop l.memory-index l.memories) ≡ map memory_type l.memories;
}
