use Rattle.std.proofs.Common.{◌≡◌, ◌+◌, ◌-◌, ◌^◌, ◌≤◌, map, drop}
use Rattle.std.specs.List.{sum_by}
use Rattle.wasm_core_types.specs.SubTypes.{sub_type}
use Rattle.wasm_encoder_sections.specs.CoreItems.{entity_type}
use Rattle.wasm_smith_module.proofs.sizes.items_size.Given as goal
use Rattle.wasm_smith_module.specs.Measured.{saturated}
use Rattle.wasm_smith_module.specs.Measures.{size_of}

abbrev pub invariant-loop-item : goal.invariant-loop-item
invariant-loop-item l = record {
  sum : saturated (l.size + sum_by (λ item. size_of (map sub_type l.types) (entity_type item.ty)) (drop l.item-index l.items))
      ≡ saturated (sum_by (λ item. size_of (map sub_type l.types) (entity_type item.ty)) l.items);
  fits : l.size ≤ 2 ^ 64 - 1;
}
