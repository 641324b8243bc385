use Rattle.wasm_smith_module.proofs.PassedLaws.{IsSoFar}
use Rattle.wasm_smith_module.proofs.passed_limit.first_passed.Given as goal
use Rattle.wasm_smith_module.specs.Measured.{measured}

abbrev pub invariant-loop-measure : goal.invariant-loop-measure
invariant-loop-measure l = record {
  so_far : IsSoFar measured l.measures l.measure-index;
}
