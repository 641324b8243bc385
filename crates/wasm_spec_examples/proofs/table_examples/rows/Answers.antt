use Rattle.std.proofs.Common.{refl}
use Rattle.wasm_bodies.specs.OperatorRows.{load_rows, scalar_rows, store_rows}
use Rattle.wasm_spec_examples.proofs.RightRows.{right_rows, right_loads, right_stores}
use Rattle.wasm_spec_examples.proofs.table_examples.rows.Goals as goal

pub returns : goal.returns
returns c = record {
  scalars = right_rows scalar_rows refl;
  loads = right_loads load_rows refl;
  stores = right_stores store_rows refl;
}
