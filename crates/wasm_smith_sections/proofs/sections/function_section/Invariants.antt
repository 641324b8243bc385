use Rattle.std.proofs.Common.{◌≡◌, ◌++◌, drop}
use Rattle.wasm_smith_sections.proofs.sections.function_section.Given as goal

abbrev pub invariant-loop-index : goal.invariant-loop-index
invariant-loop-index l = record {
  kept : l.section ++ drop l.index-index l.funcs ≡ l.funcs;
}
