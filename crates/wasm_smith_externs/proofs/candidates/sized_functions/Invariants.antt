use Rattle.std.proofs.Common.{◌≡◌, ◌++◌, drop}
use Rattle.wasm_smith_validity.specs.Spaces.{functions_of}
use Rattle.wasm_smith_externs.specs.Fitting.{sized}
use Rattle.wasm_smith_externs.proofs.candidates.sized_functions.Given as goal

abbrev pub invariant-loop-index : goal.invariant-loop-index
invariant-loop-index l = l.items ++ sized l.spaces.types l.index (drop l.index (functions_of l.spaces)) ≡ sized l.spaces.types 0 (functions_of l.spaces)
