use Rattle.wasm_encoder_sections.proofs.ShortestEntities as entities
use Rattle.wasm_encoder_sections.proofs.laws.shortest_entities.Goals as goal

pub returns : goal.returns
returns c = record {
  limits = entities.limits;
  memories = entities.memory;
  tables = entities.table;
  globals = entities.global;
  tags = entities.tag;
  external = entities.external;
}
