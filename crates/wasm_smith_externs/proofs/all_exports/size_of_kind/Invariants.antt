use Rattle.std.proofs.Common.{◌≡◌, ◌-◌, ◌^◌, map, min}
use Rattle.std.specs.List.{range_with_len}
use Rattle.wasm_encoder_sections.specs.CoreItems.{export_kind}
use Rattle.wasm_smith_externs.specs.AllExports.{items_size}
use Rattle.wasm_smith_externs.proofs.all_exports.size_of_kind.Given as goal

abbrev pub invariant-loop-index : goal.invariant-loop-index
invariant-loop-index l = l.size ≡ min (items_size l.spaces (map (λ index. (export_kind l.kind, index)) (range_with_len 0 l.index))) (2 ^ 64 - 1)
