use Rattle.std.proofs.Common.{refl}
use Rattle.wasm_spec_examples.proofs.table_examples.gates_of_forms.Goals as goal

pub returns : goal.returns
returns c = record {
  control = refl;
  variables = refl;
  blocks = refl;
  tail_calls = refl;
  function_references = refl;
  reference_types = refl;
  floats = refl;
  vectors = refl;
  ranges = refl;
  collected = refl;
}
