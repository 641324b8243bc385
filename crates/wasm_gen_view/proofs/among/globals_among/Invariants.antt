use Rattle.std.proofs.Common.{◌≡◌, ◌++◌, map, drop}
use Rattle.wasm_gen_view.specs.MadeSpaces.{globals_among}
use Rattle.wasm_gen_view.specs.Views.{global_type, item_type}
use Rattle.wasm_gen_view.proofs.among.globals_among.Given as goal

abbrev pub invariant-loop-item : goal.invariant-loop-item
invariant-loop-item l = record {
  kept : map global_type l.globals.items ++ globals_among (map item_type (drop l.item-index l.items)) ≡ globals_among (map item_type l.items);
}
