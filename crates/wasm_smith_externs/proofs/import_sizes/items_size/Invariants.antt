use Rattle.std.proofs.Common.{◌≡◌, ◌+◌, ◌-◌, ◌^◌, ◌≤◌, map, drop, min}
use Rattle.std.specs.List.{sum_by}
use Rattle.wasm_core_types.specs.SubTypes.{sub_type}
use Rattle.wasm_encoder_sections.specs.CoreItems.{entity_type}
use Rattle.wasm_smith_externs.specs.Candidates.{type_size}
use Rattle.wasm_smith_externs.proofs.import_sizes.items_size.Given as goal

abbrev pub invariant-loop-item : goal.invariant-loop-item
invariant-loop-item l = record {
  sum : min (l.size + sum_by (λ item. type_size (map sub_type l.types) (entity_type item.ty)) (drop l.item-index l.items)) (2 ^ 64 - 1)
      ≡ min (sum_by (λ item. type_size (map sub_type l.types) (entity_type item.ty)) l.items) (2 ^ 64 - 1);
  fits : l.size ≤ 2 ^ 64 - 1;
}
