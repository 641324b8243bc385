use Rattle.std.proofs.Common.{◌≡◌, ◌++◌, map, drop}
use Rattle.wasm_smith_definitions.specs.Items as items
use Rattle.wasm_smith_sections.specs.Contents.{global_bytes}
use Rattle.wasm_smith_sections.proofs.sections.global_section.Given as goal

abbrev pub invariant-loop-global : goal.invariant-loop-global
invariant-loop-global l = record {
  kept : l.section ++ map global_bytes (map items.global (drop l.global-index l.globals)) ≡ map global_bytes (map items.global l.globals);
}
