use Rattle.std.proofs.Common.{◌≡◌, ◌++◌, drop, map}
use Rattle.wasm_smith_externs.specs.Wanted.{of_function}
use Rattle.wasm_smith_validity.specs.Spaces.{spaces_after_all}
use Rattle.wasm_smith_externs.proofs.functions.shape_functions.Given as goal

abbrev pub invariant-loop-index : goal.invariant-loop-index
invariant-loop-index l = record {
  types : l.own.items ++ drop l.index-index l.types ≡ l.types;
  known : l.spaces ≡ spaces_after_all l.fn.spaces (map of_function l.own.items);
}
