use Rattle.std.proofs.Common.{◌≡◌, ◌++◌, drop, map}
use Rattle.wasm_encoder_sections.specs.CoreItems.{memory_type}
use Rattle.wasm_smith_definitions.specs.Kinds.{of_memory}
use Rattle.wasm_smith_validity.specs.Spaces.{spaces_after_all}
use Rattle.wasm_smith_definitions.proofs.memories.shape_memories.Given as goal

abbrev pub invariant-loop-ty : goal.invariant-loop-ty
invariant-loop-ty l = record {
  types : map memory_type l.own.items ++ map memory_type (drop l.ty-index l.types) ≡ map memory_type l.types;
  known : l.spaces ≡ spaces_after_all l.fn.spaces (map of_memory (map memory_type l.own.items));
}
