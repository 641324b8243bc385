use Rattle.std.proofs.Common.{◌≡◌, ◌++◌, map, drop}
use Rattle.wasm_gen_view.specs.MadeSpaces.{memories_among}
use Rattle.wasm_gen_view.specs.Views.{memory_type, item_type}
use Rattle.wasm_gen_view.proofs.among.memories_among.Given as goal

abbrev pub invariant-loop-item : goal.invariant-loop-item
invariant-loop-item l = record {
  kept : map memory_type l.memories.items ++ memories_among (map item_type (drop l.item-index l.items)) ≡ memories_among (map item_type l.items);
}
