use Rattle.std.proofs.Common.{◌≡◌, ◌++◌, map, drop}
use Rattle.wasm_gen_view.specs.Views.{memory_type}
use Rattle.wasmparser_validator.specs.Shown.{spaces}
use Rattle.wasm_gen_view.proofs.known_items.memories.Given as goal

abbrev pub invariant-loop-index : goal.invariant-loop-index
invariant-loop-index l = record {
  kept : map memory_type l.items.items ++ drop l.index ((spaces l.types).memories) ≡ (spaces l.types).memories;
}
