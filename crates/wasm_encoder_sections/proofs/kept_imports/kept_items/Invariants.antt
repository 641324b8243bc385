use Rattle.std.proofs.Common.{◌≡◌, ◌++◌, map, drop}
use Rattle.wasm_encoder_sections.specs.CoreImports.{lent_item, item_of}
use Rattle.wasm_encoder_sections.proofs.kept_imports.kept_items.Given as goal

abbrev pub invariant-loop-item : goal.invariant-loop-item
invariant-loop-item l = record {
  copied : map item_of l.kept.items ++ map lent_item (drop l.item-index l.items) ≡ map lent_item l.items;
}
