use Rattle.std.proofs.Common.{[], ◌∙◌, inl, inr, length, sym, ap, arith}
use Rattle.wasm_gen_program.proofs.CheckInputsLaws.{all_met, another_met, few_met, last_met, named_at, none_met, one_longer, still_ready, writes_on}
use Rattle.wasm_gen_program.proofs.WriteLaws.{none_written, writes_go_on}
use Rattle.wasm_gen_program.proofs.check_inputs.check_all.Goals as goal
use Rattle.wasm_gen_program.proofs.check_inputs.check_all.Goals.{else-loop-place-test, then-loop-place-test+then-ends_run}

pub loop-place-init : goal.loop-place-init
loop-place-init g c = record {
  ready = ap (λ h. h.has_failed) c.requires;
  each = ap length c.in_ok-outcomes.ensures.items;
  room = c.in_ok-outcomes.ensures.capacity;
  validated = none_met _ _ _ [] _ _ c.in_ok-outcomes.ensures.items c.requires;
  wrote = none_written _;
}

pub loop-place-preserved : goal.loop-place-preserved
loop-place-preserved g c =
    let before = c.loop-place.invariant in
    let goes_on = sym c.ends_run.ensures ∙ c.if-ends_run.false in
    let ended = c.check_named-answer.ensures in
    record {
      ready = still_ready _ _ _ _ _ _ ended goes_on before.ready;
      each = one_longer _ _ _ _ before.each c.push_reserved.ensures.items;
      room = rw c.push_reserved.ensures.capacity before.room;
      validated = another_met _ _ _ _ _ _ _ _ _ _ _ _ _ before.validated ended (named_at _ _ _ _ c.loop-place-test.true) before.each c.new-next.ensures c.outcome_of.ensures c.push_reserved.ensures.items goes_on;
      wrote = writes_go_on _ _ _ before.wrote (writes_on _ _ _ _ _ _ ended goes_on);
    }

pub returns : goal.returns
returns g c = elim c.loop-place-test.branch [
  | else-loop-place-test w ↦
      let before = c.loop-place.invariant in
      let few = c.loop-place.auto.place-end in
      rw (w.outcomes-is, w.writer-is, w.inputs-is)
      (record {
        each = few_met _ _ _ _ before.each few;
        whole = inl (all_met _ _ _ _ _ _ _ _ _ _ before.validated before.each w.loop-place-test.false few before.wrote);
        refused = tt;
      })
  | then-loop-place-test+then-ends_run w ↦
      let before = c.loop-place.invariant in
      let ends = sym w.ends_run.ensures ∙ w.if-ends_run.true in
      rw (w.outcomes-is, w.writer-is, w.inputs-is)
      (record {
        each = few_met _ _ _ _ (one_longer _ _ _ _ before.each w.push_reserved.ensures.items) (omega arith);
        whole = inr (last_met _ _ _ _ _ _ _ _ _ _ _ _ _ before.validated w.check_named-answer.ensures (named_at _ _ _ _ w.loop-place-test.true) before.each w.new-next.ensures w.outcome_of.ensures w.push_reserved.ensures.items before.wrote ends);
        refused = tt;
      })
]
