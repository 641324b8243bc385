use Rattle.std.proofs.Common.{◌≡◌, ◌++◌, map, drop}
use Rattle.wasm_encoder_sections.specs.CoreItems.{entity_type}
use Rattle.wasm_smith_shapes.specs.Imports.{import_item}
use Rattle.wasm_smith_shapes.proofs.flat.push_items.Given as goal

abbrev pub invariant-loop-item : goal.invariant-loop-item
invariant-loop-item l = record {
  added : map entity_type l.types.items ++ map (λ item. item.type) (map import_item (drop l.item-index l.items))
      ≡ map entity_type l.fn.types.items ++ map (λ item. item.type) (map import_item l.items);
}
