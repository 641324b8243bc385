use Rattle.std.proofs.Common.{refl}
use Rattle.wasm_spec_examples.proofs.table_examples.widths.Goals as goal

pub returns : goal.returns
returns c = record {
  of_loads = refl;
  of_stores = refl;
  numbers_of_loads = refl;
  numbers_of_stores = refl;
}
