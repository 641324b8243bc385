use Rattle.std.proofs.Common.{◌≡◌, ◌++◌, map, drop}
use Rattle.wasm_encoder_sections.specs.CoreItems as written
use Rattle.wasm_gen_view.specs.Views.{memory_type}
use Rattle.wasm_gen_view.proofs.own_items.push_memories.Given as goal

abbrev pub invariant-loop-memory : goal.invariant-loop-memory
invariant-loop-memory l = record {
  kept : map memory_type l.memories.items ++ map written.memory_type (drop l.memory-index l.own) ≡ map memory_type l.fn.memories.items ++ map written.memory_type l.own;
}
