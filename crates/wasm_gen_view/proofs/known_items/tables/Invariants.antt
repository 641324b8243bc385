use Rattle.std.proofs.Common.{◌≡◌, ◌++◌, map, drop}
use Rattle.wasm_gen_view.specs.ItemReferences.{refer}
use Rattle.wasm_gen_view.specs.Views.{table_type}
use Rattle.wasm_spec.specs.TypeReferences.{table_map}
use Rattle.wasmparser_validator.specs.Shown.{spaces}
use Rattle.wasm_gen_view.proofs.known_items.tables.Given as goal

abbrev pub invariant-loop-index : goal.invariant-loop-index
invariant-loop-index l = record {
  kept : map table_type l.items.items ++ drop l.index (map (table_map (refer l.numbers)) (spaces l.types).tables) ≡ map (table_map (refer l.numbers)) (spaces l.types).tables;
}
