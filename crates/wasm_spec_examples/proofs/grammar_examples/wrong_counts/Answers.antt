use Rattle.std.proofs.Common.{arith}
use Rattle.wasm_spec_examples.proofs.grammar_examples.wrong_counts.Goals as goal

pub returns : goal.returns
returns c = record {
  too_many = λ compact bytes segment m. omega (arith, m.counted.0);
  no_data = λ compact bytes m. omega (arith, m.counted.0);
  late = λ compact bytes bodies m. omega (arith, m.ordered.1.0);
  late_tags = λ compact bytes m. omega (arith, m.ordered.1.0);
}
