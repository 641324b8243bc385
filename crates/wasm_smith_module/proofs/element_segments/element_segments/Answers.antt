use Rattle.std.proofs.Common.{ap, map, refl, ◌∙◌, arith}
use Rattle.std.proofs.lemmas.List.{map_push}
use Rattle.wasm_smith_definitions.specs.Items.{element_segment}
use Rattle.wasm_smith_definitions.proofs.StepLaws.{grow_goes_on}
use Rattle.wasm_smith_module.proofs.DrawLaws.{none_made}
use Rattle.wasm_smith_module.proofs.ElementLaws.{tables_keep_more}
use Rattle.wasm_smith_module.proofs.TrapLaws.{drawn_in}
use Rattle.wasm_smith_module.proofs.element_segments.element_segments.Goals as goal

pub draw_segment-requires-clause-tables : goal.draw_segment-requires-clause-tables
draw_segment-requires-clause-tables c = c.grow.invariant.tables

pub grow-preserved : goal.grow-preserved
grow-preserved c = record {
  can = rw c.add_element_segment.ensures c.grow.invariant.can;
  same = c.grow.invariant.same;
  rules = rw c.add_element_segment.ensures c.grow.invariant.rules;
  tables = tables_keep_more c.args.config.now c.grow.spaces _ _ c.add_element_segment.ensures c.grow.invariant.tables;
  functions = rw c.add_element_segment.ensures c.grow.invariant.functions;
  same_tables = rw c.add_element_segment.ensures c.grow.invariant.same_tables;
  taken = omega arith;
  grown =
      grow_goes_on _ _ _ _ _ _ _ _ _ _ (element_segment c.in_ok-segment.segment) _ _ _ c.grow.invariant.grown (rw (c.element_segment_count.ensures, c.grow.invariant.can) at c.grow-test.ensures.exact)
      (rw c.element_segment_count.ensures at (c.grow-test.ensures.room refl)) c.in_ok-segment.ensures.allowed (drawn_in c.args.config.now c.args.spaces.now c.grow.spaces _ c.grow.invariant.same_tables c.grow.invariant.functions c.in_ok-segment.ensures.drawn) c.add_element_segment.ensures (omega arith)
      (ap (map element_segment) c.in_ok-push_owned.ensures ∙ map_push element_segment _ _);
}

pub returns-then-element_segment_count-config-clause-impossible : goal.returns-then-element_segment_count-config-clause-impossible
returns-then-element_segment_count-config-clause-impossible c = λ _.
    none_made c.can_be_made-can.result _ _ _ c.element_segment_count.result _ _ c.grow.invariant.same c.requires.counts c.grow-test.ensures.exact
    (omega (arith, c.element_segment_count.ensures, c.element_segment_count-2.ensures, c.if-element_segment_count-config.true))
