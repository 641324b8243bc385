use Rattle.std.proofs.Common.{ap, map, refl, ◌∙◌, arith}
use Rattle.std.proofs.lemmas.List.{map_push}
use Rattle.wasm_smith_definitions.specs.Items.{data_segment}
use Rattle.wasm_smith_definitions.proofs.StepLaws.{grow_goes_on}
use Rattle.wasm_smith_module.specs.Data.{total_size}
use Rattle.wasm_smith_module.proofs.DataLaws.{total_more}
use Rattle.wasm_smith_module.proofs.DrawLaws.{none_made}
use Rattle.wasm_smith_module.proofs.TrapLaws.{safe_in}
use Rattle.wasm_smith_module.proofs.data_segments.data_segments.Goals as goal

pub grow-preserved : goal.grow-preserved
grow-preserved c =
    let pushed = ap (map data_segment) c.in_ok-push_owned.ensures ∙ map_push data_segment _ _ in
    record {
      can = rw c.add_data_segment.ensures c.grow.invariant.can;
      same = c.grow.invariant.same;
      rules = rw c.add_data_segment.ensures c.grow.invariant.rules;
      same_memories = rw c.add_data_segment.ensures c.grow.invariant.same_memories;
      grown =
          grow_goes_on _ _ _ _ _ _ _ _ _ _ (data_segment c.in_ok-segment.segment) _ _ _ c.grow.invariant.grown (rw (c.data_segment_count.ensures, c.grow.invariant.can) at c.grow-test.ensures.exact)
          (rw c.data_segment_count.ensures at (c.grow-test.ensures.room refl)) c.in_ok-segment.ensures.allowed (safe_in c.args.config.now c.args.spaces.now c.grow.spaces _ c.grow.invariant.same_memories c.in_ok-segment.ensures.safe) c.add_data_segment.ensures (omega arith) pushed;
      taken = omega arith;
      within = omega (arith, ap total_size pushed, total_more (map data_segment c.grow.segments.items) (data_segment c.in_ok-segment.segment), c.grow.invariant.within, c.in_ok-segment.ensures.within);
    }

pub returns-clause-within : goal.returns-clause-within
returns-clause-within c = omega (arith, c.grow.invariant.within)

pub returns-then-data_segment_count-config-clause-impossible : goal.returns-then-data_segment_count-config-clause-impossible
returns-then-data_segment_count-config-clause-impossible c = λ _.
    none_made c.can_be_made-can.result _ _ _ c.data_segment_count.result _ _ c.grow.invariant.same c.requires.counts c.grow-test.ensures.exact
    (omega (arith, c.data_segment_count.ensures, c.data_segment_count-2.ensures, c.if-data_segment_count-config.true))
