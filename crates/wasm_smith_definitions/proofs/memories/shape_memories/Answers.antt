use Rattle.std.proofs.Common.{◌≡◌, ap, arith, map, subst, ◌∙◌, ◌+◌, ◌++◌, List, drop, get_or, None, false}
use Rattle.std.proofs.lemmas.List.{length-map, map_push}
use Rattle.wasm_encoder_sections.specs.CoreItems.{memory_type}
use Rattle.wasm_encoder_sections.specs.declared.entity_type.MemoryType.{MemoryType}
use Rattle.wasm_spec.specs.Types as spec
use Rattle.wasm_smith_definitions.specs.Kinds.{of_memory}
use Rattle.wasm_smith_definitions.proofs.OwnStepLaws.{all_moved, known_more, left_is, memories_step, one_moved}
use Rattle.wasm_smith_definitions.proofs.memories.shape_memories.Goals as goal

abbrev none : MemoryType
none = record { minimum = 0; maximum = None; memory64 = false; shared = false; page_size_log2 = None }

pub loop-ty-preserved : goal.loop-ty-preserved
loop-ty-preserved c =
    let i = c.loop-ty.ty-index in
    let all = map memory_type c.args.types.now in
    let made = map memory_type c.loop-ty.own.items in
    let first = memory_type (get_or c.args.types.now i none) in
    let rest = map memory_type (drop (i + 1) c.args.types.now) in
    let pushed = ap (map memory_type) c.in_ok-push.ensures.items ∙ map_push memory_type _ _ in
    record {
      types = one_moved made _ rest all first (subst (λ (left : List spec.MemoryType). map memory_type c.loop-ty.own.items ++ left ≡ map memory_type c.args.types.now) (left_is memory_type c.args.types.now i none c.loop-ty-test.true) c.loop-ty.invariant.types) pushed;
      known = known_more of_memory c.args.spaces.now c.loop-ty.spaces c.push_memory.new.self made _ first c.loop-ty.invariant.known c.in_ok-push_memory.ensures.added pushed;
    }

pub returns-clause-step : goal.returns-clause-step
returns-clause-step c = λ config kept few.
    let made = all_moved memory_type (map memory_type c.loop-ty.own.items) c.args.types.now c.loop-ty.ty-index c.loop-ty-test.false c.loop-ty.invariant.types in
    let as_many = length-map c.args.types.now memory_type in
    memories_step config c.args.spaces.now c.loop-ty.spaces (map memory_type c.loop-ty.own.items) (map memory_type c.args.types.now) made c.loop-ty.invariant.known kept
    (λ features f off. let h = few features f off in omega (arith, h, as_many))
