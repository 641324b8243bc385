use Rattle.std.proofs.Common.{refl}
use Rattle.wasm_spec_examples.proofs.table_examples.counts.Goals as goal

pub returns : goal.returns
returns c = record {
  operators = refl;
  distinct = refl;
}
