use Rattle.std.proofs.Common.{◌<◌, length, arith}
use Rattle.wasm_smith_witness.proofs.MemberLaws.{split}
use Rattle.wasm_smith_witness.proofs.functions.FunctionTypes.new.Goals as goal

pub loop-group-preserved : goal.loop-group-preserved
loop-group-preserved c =
    let lt : c.loop-group.group-index < length c.args.groups.now = omega arith in
    record {
      few = c.in_ok-push_group.ensures.few;
      kept = (rw c.deref.ensures.value at c.in_ok-push_group.ensures.kept) _ _ (rw (split _ _ _ lt c.group-item.is) at c.loop-group.invariant.kept);
    }
