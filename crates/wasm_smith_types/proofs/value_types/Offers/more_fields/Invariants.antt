use Rattle.std.proofs.Common.{◌≡◌, ◌-◌, ◌≤◌, map, vec_len, length}
use Rattle.wasm_core_types.specs.CoreTypes.{field_type}
use Rattle.wasm_smith_types.specs.Growing.{with_front, grow_at}
use Rattle.wasm_smith_types.specs.Drawing.{field_at, fields_at}
use Rattle.wasm_smith_types.proofs.value_types.Offers.more_fields.Given as goal

abbrev pub invariant-grow : goal.invariant-grow
invariant-grow l = record {
  drawn : with_front (map field_type l.fields.items) (grow_at (field_at l.self l.bound) 0 20 (vec_len l.fields) l.unstructured) ≡ with_front
      (map field_type l.fn.fields.items) (fields_at l.fn.self l.bound (length l.fn.fields.items) l.fn.unstructured);
  taken : length l.unstructured ≤ length l.fn.unstructured;
}

abbrev pub decreases-grow : goal.decreases-grow
decreases-grow l = 20 - vec_len l.fields
