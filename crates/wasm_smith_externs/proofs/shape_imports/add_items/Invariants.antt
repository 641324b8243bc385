use Rattle.std.proofs.Common.{◌≡◌, map, drop}
use Rattle.wasm_smith_shapes.specs.Imports.{import_item}
use Rattle.wasm_smith_validity.specs.Spaces.{with_items}
use Rattle.wasm_smith_externs.proofs.shape_imports.add_items.Given as goal

abbrev pub invariant-loop-item : goal.invariant-loop-item
invariant-loop-item l = record {
  added : with_items l.spaces (map (λ item. item.type) (map import_item (drop l.item-index l.items))) ≡ with_items l.fn.spaces (map (λ item. item.type) (map import_item l.items));
}
