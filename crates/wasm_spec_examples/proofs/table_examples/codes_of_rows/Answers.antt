use Rattle.std.proofs.Common.{refl}
use Rattle.wasm_spec_examples.proofs.table_examples.codes_of_rows.Goals as goal

pub returns : goal.returns
returns c = record {
  scalars = refl;
  loads = refl;
  stores = refl;
}
