use Rattle.std.proofs.Common.{◌≡◌, ◌++◌, map, drop}
use Rattle.wasm_smith_shapes.specs.Imports.{import_item}
use Rattle.wasm_smith_types.specs.Copies.{shifted_index}
use Rattle.wasm_smith_externs.specs.ShapeImports.{import_map}
use Rattle.wasm_smith_externs.proofs.shape_imports.shifted_items.Given as goal

abbrev pub invariant-loop-item : goal.invariant-loop-item
invariant-loop-item l = record {
  shifted : map import_item l.shifted.items ++ map (import_map (shifted_index l.shift.start l.shift.by)) (map import_item (drop l.item-index l.items))
      ≡ map (import_map (shifted_index l.shift.start l.shift.by)) (map import_item l.items);
}
