use Rattle.wasm_core_types.specs.SubTypes.{sub_type}
use Rattle.wasm_smith_module.proofs.PassedLaws.{AreSoFar}
use Rattle.wasm_smith_module.proofs.passed_limit.passed_type.Given as goal
use Rattle.wasm_smith_module.specs.Measures.{measures_of_type}

abbrev pub invariant-loop-ty : goal.invariant-loop-ty
invariant-loop-ty l = record {
  so_far : AreSoFar (λ ty. measures_of_type (sub_type ty)) l.types l.ty-index;
}
