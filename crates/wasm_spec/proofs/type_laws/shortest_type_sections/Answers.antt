use Rattle.wasm_spec.proofs.ShortestTypes.{section}
use Rattle.wasm_spec.proofs.type_laws.shortest_type_sections.Goals as goal

pub returns : goal.returns
returns c = section
