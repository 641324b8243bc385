use Rattle.wasm_encoder_expression_sections.proofs.ShortestBodies as bodies
use Rattle.wasm_encoder_expression_sections.proofs.laws.bodies_read.Goals as goal

pub returns : goal.returns
returns c = record { body = bodies.body; section = bodies.bodies }
