use Rattle.std.proofs.Common.{◌≡◌, ◌++◌, map, drop, flat_map}
use Rattle.wasm_gen_view.specs.ItemReferences.{refer}
use Rattle.wasm_gen_view.specs.Views.{item_type}
use Rattle.wasm_smith_shapes.specs.Imports.{import_entry}
use Rattle.wasm_spec.specs.Syntax.{imported_by}
use Rattle.wasm_spec.specs.TypeReferences.{external_map}
use Rattle.wasm_gen_view.proofs.imported.imported_items.Given as goal

abbrev pub invariant-loop-entry : goal.invariant-loop-entry
invariant-loop-entry l = record {
  kept : map item_type l.imported.items ++ map (external_map (refer l.numbers)) (flat_map imported_by (map import_entry (drop l.entry-index l.imports)))
      ≡ map (external_map (refer l.numbers)) (flat_map imported_by (map import_entry l.imports));
}
