use Rattle.wasm_spec.specs.Subtyping.{same}
use Rattle.wasm_spec.proofs.Closures.{joined}
use Rattle.wasm_spec.proofs.TypeOrders.{ref_same, ref_joined, val_same, val_joined, storage_same, storage_joined, field_same, field_joined, composite_same, composite_joined}
use Rattle.wasm_spec.proofs.subtyping_laws.orders.Goals as goal

pub returns : goal.returns
returns c start = record {
  heap_same = λ sub_at a. same;
  heap_joined = λ sub_at a b d h k. joined h k;
  ref_same = ref_same;
  ref_joined = ref_joined;
  val_same = val_same;
  val_joined = val_joined;
  storage_same = storage_same;
  storage_joined = storage_joined;
  field_same = field_same;
  field_joined = field_joined;
  composite_same = composite_same;
  composite_joined = composite_joined;
}
