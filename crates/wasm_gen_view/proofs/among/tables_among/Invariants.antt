use Rattle.std.proofs.Common.{◌≡◌, ◌++◌, map, drop}
use Rattle.wasm_gen_view.specs.MadeSpaces.{tables_among}
use Rattle.wasm_gen_view.specs.Views.{table_type, item_type}
use Rattle.wasm_gen_view.proofs.among.tables_among.Given as goal

abbrev pub invariant-loop-item : goal.invariant-loop-item
invariant-loop-item l = record {
  kept : map table_type l.tables.items ++ tables_among (map item_type (drop l.item-index l.items)) ≡ tables_among (map item_type l.items);
}
