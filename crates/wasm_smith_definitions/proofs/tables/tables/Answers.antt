use Rattle.std.proofs.Common.{ap, map, refl, ◌∙◌, length-append, arith}
use Rattle.std.proofs.lemmas.List.{map_push}
use Rattle.wasm_smith_definitions.specs.Items as items
use Rattle.wasm_smith_definitions.proofs.StepLaws.{grow_goes_on, grow_ends}
use Rattle.wasm_smith_definitions.proofs.tables.tables.Goals as goal

pub grow-preserved : goal.grow-preserved
grow-preserved c = record {
  no_own_globals = rw c.in_ok-push_table.ensures.added c.grow.invariant.no_own_globals;
  rules = rw c.in_ok-push_table.ensures.added c.grow.invariant.rules;
  taken = omega arith;
  growing =
      grow_goes_on _ _ _ _ _ _ _ _ _ _ (items.table c.in_ok-table.table) _ _ _ c.grow.invariant.growing (rw c.count_of.ensures at c.grow-test.ensures.exact) (rw c.count_of.ensures at (c.grow-test.ensures.room refl))
      c.in_ok-table.ensures.allowed c.in_ok-table.ensures.bounded c.in_ok-push_table.ensures.added (length-append _ _) (ap (map items.table) c.in_ok-push.ensures ∙ map_push items.table _ _);
}

pub returns-clause-grown : goal.returns-clause-grown
returns-clause-grown c = grow_ends _ _ _ _ _ _ _ _ _ _ c.requires.ordered refl c.grow.invariant.growing (rw c.count_of.ensures at c.grow-test.ensures.exact)
