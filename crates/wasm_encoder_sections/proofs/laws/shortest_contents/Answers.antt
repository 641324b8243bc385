use Rattle.wasm_encoder_sections.proofs.ShortestSections as sections
use Rattle.wasm_encoder_sections.proofs.laws.shortest_contents.Goals as goal

pub returns : goal.returns
returns c = record {
  functions = sections.functions;
  tables = sections.tables;
  memories = sections.memories;
  tags = sections.tags;
  exports = sections.exports;
  imports = sections.imports;
  start = sections.start;
  data_count = sections.data_count;
}
