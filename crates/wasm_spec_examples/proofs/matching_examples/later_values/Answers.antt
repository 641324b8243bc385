use Rattle.wasm_spec_examples.proofs.FieldLaws.{narrower, no_wider}
use Rattle.wasm_spec_examples.proofs.matching_examples.later_values.Goals as goal

pub returns : goal.returns
returns c start = record {
  params = λ sub_at. record { params = (tt, (narrower sub_at, tt)); results = tt };
  params_narrowed = λ sub_at m. no_wider sub_at m.params.1.0;
  results = λ sub_at. record { params = tt; results = (tt, (narrower sub_at, tt)) };
  results_widened = λ sub_at m. no_wider sub_at m.results.1.0;
}
