use Rattle.std.proofs.Common.{◌≡◌, ◌++◌, map, drop}
use Rattle.wasm_gen_view.specs.ItemReferences.{refer}
use Rattle.wasm_gen_view.specs.Views.{item_type}
use Rattle.wasm_smith_shapes.specs.Imports.{import_item}
use Rattle.wasm_spec.specs.TypeReferences.{external_map}
use Rattle.wasm_gen_view.proofs.imported.push_items.Given as goal

abbrev pub invariant-loop-item : goal.invariant-loop-item
invariant-loop-item l = record {
  kept : map item_type l.imported.items ++ map (external_map (refer l.numbers)) (map (λ item. item.type) (map import_item (drop l.item-index l.items)))
      ≡ map item_type l.fn.imported.items ++ map (external_map (refer l.numbers)) (map (λ item. item.type) (map import_item l.items));
}
