use Rattle.wasmparser_operators.proofs.ImmediateForms.{reads_block_type, reads_memory_argument}
use Rattle.wasmparser_operators.proofs.OperatorForms.{reads_code, reads_operator}
use Rattle.wasmparser_operators.proofs.laws.reads_exactly.Goals as goal

pub returns : goal.returns
returns c = record {
  operator = reads_operator;
  code = reads_code;
  block_type = reads_block_type;
  memory_argument = reads_memory_argument;
}
