use Rattle.std.proofs.Common.{◌≡◌, ◌++◌, map, drop}
use Rattle.wasm_gen_view.specs.ItemReferences.{refer}
use Rattle.wasm_gen_view.specs.Views.{table_type}
use Rattle.wasm_smith_definitions.specs.Items.{table}
use Rattle.wasm_spec.specs.TypeReferences.{table_map}
use Rattle.wasm_gen_view.proofs.own_items.push_tables.Given as goal

abbrev pub invariant-loop-table : goal.invariant-loop-table
invariant-loop-table l = record {
  kept : map table_type l.tables.items ++ map (table_map (refer l.numbers)) (map (λ table. table.type) (map table (drop l.table-index l.own)))
      ≡ map table_type l.fn.tables.items ++ map (table_map (refer l.numbers)) (map (λ table. table.type) (map table l.own));
}
