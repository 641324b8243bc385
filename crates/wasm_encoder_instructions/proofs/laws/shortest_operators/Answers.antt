use Rattle.wasm_encoder_instructions.proofs.ShortestOperators.{shortest_operator, shortest_operators}
use Rattle.wasm_encoder_instructions.proofs.laws.shortest_operators.Goals as goal

pub returns : goal.returns
returns c = record { one = shortest_operator; several = shortest_operators }
