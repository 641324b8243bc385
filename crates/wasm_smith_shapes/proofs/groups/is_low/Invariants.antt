use Rattle.wasm_spec.specs.Groups.{Links}
use Rattle.wasm_smith_validity.specs.Below.{seen}
use Rattle.wasm_smith_validity.proofs.BelowLaws.{IsRest}
use Rattle.wasm_smith_shapes.proofs.groups.is_low.Given as goal

abbrev pub invariant-loop : goal.invariant-loop
invariant-loop l = record {
  links : Links (seen l.types) l.counter l.index l.at;
  rest : IsRest l.types l.counter l.index l.at;
}
