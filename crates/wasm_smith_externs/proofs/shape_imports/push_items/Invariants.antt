use Rattle.std.proofs.Common.{◌≡◌, ◌++◌, false, map, drop}
use Rattle.wasm_spec.specs.Syntax.{CompactItems}
use Rattle.wasm_smith_shapes.specs.Imports.{import_entry, import_item}
use Rattle.wasm_smith_types.specs.Copies.{shifted_index}
use Rattle.wasm_smith_externs.specs.ShapeImports.{entry_map, written}
use Rattle.wasm_smith_externs.proofs.shape_imports.push_items.Given as goal

abbrev pub invariant-loop-item : goal.invariant-loop-item
invariant-loop-item l = record {
  added : map import_entry l.imports.items ++ written false (entry_map (shifted_index l.shift.start l.shift.by) (CompactItems l.origin (map import_item (drop l.item-index l.items))))
      ≡ map import_entry l.fn.imports.items ++ written false (entry_map (shifted_index l.shift.start l.shift.by) (CompactItems l.origin (map import_item l.items)));
}
