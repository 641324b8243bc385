use Rattle.wasm_spec.specs.Features.{CompactImports, has}
use Rattle.wasm_validity.specs.Context.{at_first}
use Rattle.wasm_validity_examples.proofs.ZeroMemories.{keep_rules, pass_no_tags, zeros_front}
use Rattle.wasm_validity_examples.proofs.cause_examples.memories_past.Goals as goal

pub returns : goal.returns
returns c = record {
  rules = λ features several b. b.breaks (keep_rules features at_first b.entries several (zeros_front (has features CompactImports) b.entries b.begins));
  tags = λ features b. pass_no_tags at_first b.entries (zeros_front (has features CompactImports) b.entries b.begins) b.passes;
}
