use Rattle.std.proofs.Common.{◌≡◌, ◌+◌, ◌*◌, ◌≤◌, ◌^◌, length, drop}
use Rattle.wasm_smith_sections.proofs.WrittenFrames.{AllShort, SomeLong, bytes_of}
use Rattle.wasm_smith_sections.proofs.writing.total_len.Given as goal

abbrev pub invariant-loop-section : goal.invariant-loop-section
invariant-loop-section l = record {
  so_far : l.len + length (bytes_of (drop l.section-index l.sections)) ≡ 8 + length (bytes_of l.sections);
  few : l.len ≤ 8 + l.section-index * 2 ^ 33;
  short : AllShort (drop l.section-index l.sections) → AllShort l.sections;
  long : SomeLong (drop l.section-index l.sections) → SomeLong l.sections;
}
