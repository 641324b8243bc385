use Rattle.std.proofs.Common.{◌≤◌, length}
use Rattle.wasm_gen_view.specs.KnownNumbers.{AreNumberedSoFar}
use Rattle.wasmparser_validator.specs.Shown.{known, spaces}
use Rattle.wasm_gen_view.proofs.known_types.number_known_types.Given as goal

abbrev pub invariant-loop-index : goal.invariant-loop-index
invariant-loop-index l = record {
  so_far : AreNumberedSoFar (known l.types) (spaces l.types).types l.numbers.types.groups l.numbers.types.places.items l.numbers.numbers;
  reached : l.index ≤ length l.numbers.types.places.items;
}
