use Rattle.wasm_bodies_laws.specs.References.{WantedBy}
use Rattle.wasm_bodies_laws.proofs.MappedBlocks.{entered_is}
use Rattle.wasm_bodies_laws.proofs.MappedEffects.{effect_is}
use Rattle.wasm_bodies_laws.proofs.reference_laws.mapped_steps.Goals as goal

pub returns : goal.returns
returns c start = record {
  operators = λ is_wanted f cx below agree wanted labels all. effect_is (WantedBy is_wanted) f cx below agree wanted labels all;
  blocks = λ is_wanted f cx below agree wanted. entered_is (WantedBy is_wanted) f cx below agree wanted;
}
