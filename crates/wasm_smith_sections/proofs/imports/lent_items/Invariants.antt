use Rattle.std.proofs.Common.{◌≡◌, ◌++◌, map, drop}
use Rattle.wasm_encoder_sections.specs.CoreImports.{lent_item}
use Rattle.wasm_smith_shapes.specs.Imports.{import_item}
use Rattle.wasm_smith_sections.proofs.imports.lent_items.Given as goal

abbrev pub invariant-loop-item : goal.invariant-loop-item
invariant-loop-item l = record {
  lent : map lent_item l.lent.items ++ map import_item (drop l.item-index l.items) ≡ map import_item l.items;
}
