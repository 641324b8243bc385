use Rattle.std.proofs.Common.{◌-◌, length, map, ◌≤◌}
use Rattle.wasm_encoder_sections.specs.CoreItems.{memory_type}
use Rattle.wasm_smith_definitions.specs.Offered.{IsOfferedMemory}
use Rattle.wasm_smith_definitions.specs.Kinds.{of_memory, wanted_memories}
use Rattle.wasm_smith_definitions.proofs.StepLaws.{IsGrowing}
use Rattle.wasm_smith_definitions.proofs.memories.memories.Given as goal

abbrev pub invariant-grow : goal.invariant-grow
invariant-grow l = record {
  taken : length l.unstructured ≤ length l.fn.unstructured;
  growing : IsGrowing l.config (wanted_memories l.config) of_memory (IsOfferedMemory l.config) l.fn.spaces l.fn.unstructured l.spaces l.unstructured (map memory_type l.own.items);
}

abbrev pub decreases-grow : goal.decreases-grow
decreases-grow l = l.config.max_memories - length l.spaces.memories
