use Rattle.std.proofs.Common.{◌≡◌, ◌++◌, drop}
use Rattle.wasm_smith_externs.specs.Fitting.{sized}
use Rattle.wasm_smith_externs.proofs.candidates.sized_tags.Given as goal

abbrev pub invariant-loop-index : goal.invariant-loop-index
invariant-loop-index l = l.items ++ sized l.spaces.types l.index (drop l.index l.spaces.tags) ≡ sized l.spaces.types 0 l.spaces.tags
