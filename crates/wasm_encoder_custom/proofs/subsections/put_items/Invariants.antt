use Rattle.std.proofs.Common.{◌+◌, ◌≡◌, ◌≤◌, ◌++◌, length, drop, vec_len, vec_capacity}
use Rattle.std.specs.List.{flat_map}
use Rattle.wasm_encoder_custom.proofs.subsections.put_items.Given as goal

abbrev pub invariant-loop-item : goal.invariant-loop-item
invariant-loop-item g l = record {
  written : l.sink.items ++ flat_map g.T.Encoding.encoding (drop l.item-index l.items) ≡ l.fn.sink.items ++ flat_map g.T.Encoding.encoding l.items;
  room : vec_len l.sink + length (flat_map g.T.Encoding.encoding (drop l.item-index l.items)) ≤ vec_capacity l.sink;
  capacity : vec_capacity l.fn.sink ≤ vec_capacity l.sink;
}
