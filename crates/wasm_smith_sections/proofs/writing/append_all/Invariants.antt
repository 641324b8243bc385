use Rattle.std.proofs.Common.{◌≡◌, ◌++◌, drop}
use Rattle.wasm_smith_sections.proofs.WrittenFrames.{SomeLong, bytes_of}
use Rattle.wasm_smith_sections.proofs.writing.append_all.Given as goal

abbrev pub invariant-loop-section : goal.invariant-loop-section
invariant-loop-section l = record {
  so_far : l.bytes.items ++ bytes_of (drop l.section-index l.sections) ≡ l.fn.bytes.items ++ bytes_of l.sections;
  long : SomeLong (drop l.section-index l.sections) → SomeLong l.sections;
}
