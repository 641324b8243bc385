use Rattle.std.proofs.Common.{◌≡◌, ◌++◌, map, drop}
use Rattle.wasm_smith_sections.specs.FilledSections.{filled_frame}
use Rattle.wasm_smith_sections.proofs.FilledParts.{at_place}
use Rattle.wasm_smith_sections.proofs.filling.add_customs.Given as goal

abbrev pub invariant-loop-custom : goal.invariant-loop-custom
invariant-loop-custom l = record {
  so_far : map filled_frame l.sections.items ++ at_place l.place (drop l.custom-index l.customs) ≡ map filled_frame l.fn.sections.items ++ at_place l.place l.customs;
}
