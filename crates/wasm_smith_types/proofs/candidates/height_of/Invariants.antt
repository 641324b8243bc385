use Rattle.wasm_spec.specs.Groups.{Links}
use Rattle.wasm_smith_validity.specs.Below.{seen}
use Rattle.wasm_smith_validity.proofs.BelowLaws.{IsRest}
use Rattle.wasm_smith_types.proofs.candidates.height_of.Given as goal

abbrev pub invariant-loop-height : goal.invariant-loop-height
invariant-loop-height l = record {
  links : Links (seen l.types) l.height l.index l.at;
  rest : IsRest l.types l.height l.index l.at;
}
