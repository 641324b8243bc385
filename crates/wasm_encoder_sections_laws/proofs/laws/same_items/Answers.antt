use Rattle.wasm_encoder_sections_laws.proofs.SameSections as same
use Rattle.wasm_encoder_sections_laws.proofs.laws.same_items.Goals as goal

pub returns : goal.returns
returns c = record {
  functions = same.functions;
  tables = same.tables;
  memories = same.memories;
  tags = same.tags;
  exports = same.exports;
  imports = same.imports;
}
