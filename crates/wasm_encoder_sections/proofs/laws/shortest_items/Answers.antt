use Rattle.wasm_encoder_sections.proofs.ShortestImports as items
use Rattle.wasm_encoder_sections.proofs.laws.shortest_items.Goals as goal

pub returns : goal.returns
returns c = record { names = items.name; exports = items.export; imports = items.entry }
