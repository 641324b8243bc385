use Rattle.std.proofs.Common.{ap, map, refl, ◌∙◌, arith}
use Rattle.std.proofs.lemmas.List.{map_push}
use Rattle.wasm_smith_definitions.specs.Items as items
use Rattle.wasm_smith_definitions.proofs.SpaceLaws.{one_more_global}
use Rattle.wasm_smith_definitions.proofs.StepLaws.{grow_goes_on, grow_ends}
use Rattle.wasm_smith_definitions.proofs.globals.globals.Goals as goal

pub grow-preserved : goal.grow-preserved
grow-preserved c = record {
  rules = rw c.in_ok-push_global.ensures.added c.grow.invariant.rules;
  taken = omega arith;
  growing =
      grow_goes_on _ _ _ _ _ _ _ _ _ _ (items.global c.in_ok-global.global) _ _ _ c.grow.invariant.growing (rw c.count_of.ensures at c.grow-test.ensures.exact) (rw c.count_of.ensures at (c.grow-test.ensures.room refl))
      c.in_ok-global.ensures.allowed tt c.in_ok-push_global.ensures.added (one_more_global c.grow.spaces _) (ap (map items.global) c.in_ok-push.ensures ∙ map_push items.global _ _);
}

pub returns-clause-grown : goal.returns-clause-grown
returns-clause-grown c = grow_ends _ _ _ _ _ _ _ _ _ _ c.requires.ordered refl c.grow.invariant.growing (rw c.count_of.ensures at c.grow-test.ensures.exact)
