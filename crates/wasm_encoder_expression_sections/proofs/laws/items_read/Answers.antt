use Rattle.wasm_encoder_expression_sections.proofs.ReadItems as items
use Rattle.wasm_encoder_expression_sections.proofs.laws.items_read.Goals as goal

pub returns : goal.returns
returns c = record { tables = items.table; globals = items.global; elements = items.element; segments = items.segment }
