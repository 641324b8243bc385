use Rattle.std.proofs.Common.{◌+◌, ◌≡◌, ◌<◌, ◌^◌, length, drop}
use Rattle.std.specs.List.{flat_map}
use Rattle.wasm_encoder_custom.proofs.subsections.items_size.Given as goal

abbrev pub invariant-loop-item : goal.invariant-loop-item
invariant-loop-item g l = (l.total + length (flat_map g.T.Encoding.encoding (drop l.item-index l.items)) ≡ length (flat_map g.T.Encoding.encoding l.items)) × (l.total < 2 ^ 32)
