use Rattle.wasm_encoder_instructions.proofs.ShortestOperators.{shortest_operator}
use Rattle.wasm_encoder_instructions.proofs.small_instructions.reads_back.Goals as goal
use Rattle.wasm_encoder_instructions.specs.Instructions.{instruction_encoding, operator}

pub returns : goal.returns
unfolding instruction_encoding
returns c = λ features whole aligned short. shortest_operator features whole (operator c.args.instruction.now) (c.is_small.ensures aligned) short
