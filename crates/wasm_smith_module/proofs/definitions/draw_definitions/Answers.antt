use Rattle.std.proofs.Common.{◌≡◌, length, refl, sym, ap, ◌∙◌, subst, arith}
use Rattle.wasm_smith_definitions.proofs.FilledLaws.{filled_step}
use Rattle.wasm_smith_definitions.proofs.FrameLaws.{kept_by}
use Rattle.wasm_smith_definitions.specs.Kinds.{of_memory, of_table}
use Rattle.wasm_smith_module.specs.Asked.{own_of}
use Rattle.wasm_smith_validity.specs.ValidGroups.{AllKeepTypeRules}
use Rattle.wasm_smith_module.proofs.definitions.draw_definitions.Goals as goal

pub draw_memories-requires-clause-few : goal.draw_memories-requires-clause-few
draw_memories-requires-clause-few c =
    let step = filled_step c.args.config.now _ of_table _ _ _ c.args.spaces.now _ c.draw_tables.new.spaces _ _ c.in_ok-tables.ensures.filled in
    let memories : c.draw_tables.new.spaces.memories ≡ c.args.spaces.now.memories = kept_by (λ k. k.memories) c.args.config.now of_table c.args.spaces.now c.draw_tables.new.spaces _ (λ k x. refl) step in
    λ features is off. let few = c.requires.kept.few_memories features is off in omega (arith, few, ap length memories)

pub draw_globals-requires-clause-rules : goal.draw_globals-requires-clause-rules
draw_globals-requires-clause-rules c =
    let config = c.args.config.now in
    let tables = filled_step config _ of_table _ _ _ c.args.spaces.now _ c.draw_tables.new.spaces _ _ c.in_ok-tables.ensures.filled in
    let memories = filled_step config _ of_memory _ _ _ c.draw_tables.new.spaces _ c.draw_memories.new.spaces _ _ c.in_ok-memories.ensures.filled in
    let types : c.draw_memories.new.spaces.types ≡ c.args.spaces.now.types =
    kept_by (λ k. k.types) config of_memory c.draw_tables.new.spaces c.draw_memories.new.spaces _ (λ k x. refl) memories
    ∙ kept_by (λ k. k.types) config of_table c.args.spaces.now c.draw_tables.new.spaces _ (λ k x. refl) tables in
    subst AllKeepTypeRules (sym types) c.requires.rules

pub draw_globals-requires-clause-own : goal.draw_globals-requires-clause-own
draw_globals-requires-clause-own c =
    let config = c.args.config.now in
    let tables = filled_step config _ of_table _ _ _ c.args.spaces.now _ c.draw_tables.new.spaces _ _ c.in_ok-tables.ensures.filled in
    let memories = filled_step config _ of_memory _ _ _ c.draw_tables.new.spaces _ c.draw_memories.new.spaces _ _ c.in_ok-memories.ensures.filled in
    let types : c.draw_memories.new.spaces.types ≡ c.args.spaces.now.types =
    kept_by (λ k. k.types) config of_memory c.draw_tables.new.spaces c.draw_memories.new.spaces _ (λ k x. refl) memories
    ∙ kept_by (λ k. k.types) config of_table c.args.spaces.now c.draw_tables.new.spaces _ (λ k x. refl) tables in
    c.requires.own ∙ ap (own_of config) (sym types)

pub draw_globals-requires-clause-kept : goal.draw_globals-requires-clause-kept
draw_globals-requires-clause-kept c =
    let config = c.args.config.now in
    let tables = filled_step config _ of_table _ _ _ c.args.spaces.now _ c.draw_tables.new.spaces _ _ c.in_ok-tables.ensures.filled in
    let memories = filled_step config _ of_memory _ _ _ c.draw_tables.new.spaces _ c.draw_memories.new.spaces _ _ c.in_ok-memories.ensures.filled in
    let types : c.draw_memories.new.spaces.types ≡ c.args.spaces.now.types =
    kept_by (λ k. k.types) config of_memory c.draw_tables.new.spaces c.draw_memories.new.spaces _ (λ k x. refl) memories
    ∙ kept_by (λ k. k.types) config of_table c.args.spaces.now c.draw_tables.new.spaces _ (λ k x. refl) tables in
    λ features is. rw types (c.requires.kept.globals features is)
