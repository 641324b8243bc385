use Rattle.std.proofs.Common.{arith}
use Rattle.wasm_validity.specs.Context.{at_first}
use Rattle.wasm_validity_examples.proofs.ManyMemories.{keep_limits, keep_rules, pass_limits}
use Rattle.wasm_validity_examples.proofs.cause_examples.many_memories.Goals as goal

pub returns : goal.returns
returns c = record {
  most = λ features several. record { rules = keep_rules features at_first 100 several; limits = keep_limits at_first 100 (omega arith) };
  past = λ features v. pass_limits at_first 100 (omega arith) v.limits;
  not_fine = λ features f. pass_limits at_first 100 (omega arith) f.limits;
}
