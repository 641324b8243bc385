use Rattle.std.proofs.Common.{◌<◌, ◌≤◌, ◌^◌, ◌∙◌, length, arith}
use Rattle.wasm_smith_witness.proofs.FrontLaws.{written_next, written_all}
use Rattle.wasm_smith_witness.proofs.words.push_groups.Goals as goal

pub loop-group-preserved : goal.loop-group-preserved
loop-group-preserved c =
    let lt : c.loop-group.group-index < length c.args.groups.now = omega arith in
    let low : c.args.config.now.max_types < 2 ^ 32 = omega arith in
    written_next _ _ _ _ _ _ _ _ _ _ _ low lt c.group-item.is (c.len.ensures ∙ c.group-item.result.ok.0) c.in_ok-push.ensures.items (rw c.deref.ensures.value at c.in_ok-front.ensures.written)
    c.in_ok-front.ensures.front.0 (rw c.deref.ensures.value at c.in_ok-front.ensures.front.1) (rw c.deref.ensures.value at c.in_ok-front.ensures.front.2) c.loop-group.invariant

pub returns : goal.returns
returns c =
    let all : length c.args.groups.now ≤ c.loop-group.group-index = omega arith in
    written_all _ _ _ _ _ _ _ all c.in_ok-push_no.ensures c.loop-group.invariant
