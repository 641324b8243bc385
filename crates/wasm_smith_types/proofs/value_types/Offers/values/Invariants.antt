use Rattle.std.proofs.Common.{◌≡◌, ◌-◌, ◌≤◌, length, map, vec_len}
use Rattle.wasm_core_types.specs.CoreTypes.{val_type}
use Rattle.wasm_smith_types.specs.Growing.{grow_at}
use Rattle.wasm_smith_types.specs.Drawing.{value_at, values_at}
use Rattle.wasm_smith_types.specs.Growing.{with_front}
use Rattle.wasm_smith_types.proofs.value_types.Offers.values.Given as goal

abbrev pub invariant-grow : goal.invariant-grow
invariant-grow l = record {
  drawn : with_front (map val_type l.values.items)
      (grow_at (value_at l.self l.bound) 0 l.max (vec_len l.values) l.unstructured) ≡ values_at l.fn.self l.bound l.max l.fn.unstructured;
  taken : length l.unstructured ≤ length l.fn.unstructured;
}

abbrev pub decreases-grow : goal.decreases-grow
decreases-grow l = l.max - vec_len l.values
