use Rattle.std.proofs.Common.{length, map, refl, ap, ◌∙◌, arith}
use Rattle.std.proofs.lemmas.List.{length-map, map-append, map-id}
use Rattle.wasm_encoder_sections.specs.CoreItems.{memory_type}
use Rattle.wasm_smith_module.proofs.GoodLaws.{byte_limits, memories_fine}
use Rattle.wasm_smith_module.proofs.definitions.draw_memories.Goals as goal

pub memories-requires-2-clause-limits : goal.memories-requires-2-clause-limits
memories-requires-2-clause-limits c = byte_limits c.args.config.now c.requires.good

pub memories-requires-2-clause-ordered : goal.memories-requires-2-clause-ordered
memories-requires-2-clause-ordered c = memories_fine c.args.config.now c.requires.good

pub returns-clause-filled : goal.returns-clause-filled
returns-clause-filled c =
    record {
      own = map memory_type c.in_ok-asked.asked.items;
      drawn = map memory_type c.in_ok-drawn.drawn.items;
      parts = ap (map memory_type) (rw c.deref.ensures.value at c.in_ok-all.ensures) ∙ map-append memory_type c.in_ok-asked.asked.items c.in_ok-drawn.drawn.items;
      between = c.shape_memories.new.spaces;
      after = c.args.unstructured.now;
      are = map-id (map memory_type c.in_ok-asked.asked.items) ∙ c.in_ok-asked.ensures.types ∙ c.memories.ensures;
      first = c.in_ok-asked.ensures.step c.args.config.now (λ features is. rw c.memories.ensures (c.requires.kept features is))
          (λ features is off. let few = c.requires.few features is off in omega (arith, few, length-map c.memories.result.now memory_type, ap length c.memories.ensures));
      grown = c.in_ok-drawn.ensures.grown;
      alone = λ none. refl;
    }
