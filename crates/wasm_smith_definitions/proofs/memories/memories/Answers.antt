use Rattle.std.proofs.Common.{ap, map, refl, ◌∙◌, length-append, arith}
use Rattle.std.proofs.lemmas.List.{map_push}
use Rattle.wasm_encoder_sections.specs.CoreItems.{memory_type}
use Rattle.wasm_smith_definitions.proofs.StepLaws.{grow_goes_on, grow_ends}
use Rattle.wasm_smith_definitions.proofs.OfferedLaws.{memory_allowed}
use Rattle.wasm_smith_definitions.proofs.memories.memories.Goals as goal

pub grow-preserved : goal.grow-preserved
grow-preserved c =
    let room = rw c.count_of.ensures at (c.grow-test.ensures.room refl) in
    record {
      taken = omega arith;
      growing =
          grow_goes_on _ _ _ _ _ _ _ _ _ _ _ _ _ _ c.grow.invariant.growing (rw c.count_of.ensures at c.grow-test.ensures.exact) room
          (memory_allowed c.args.config.now c.grow.spaces (memory_type c.memory_type-ty.result) c.requires.limits room c.memory_type-ty.ensures.offered) c.memory_type-ty.ensures.offered
          c.in_ok-push_memory.ensures.added (length-append _ _) (ap (map memory_type) c.in_ok-push.ensures.items ∙ map_push memory_type _ _);
    }

pub returns-clause-grown : goal.returns-clause-grown
returns-clause-grown c = grow_ends _ _ _ _ _ _ _ _ _ _ c.requires.ordered refl c.grow.invariant.growing (rw c.count_of.ensures at c.grow-test.ensures.exact)
