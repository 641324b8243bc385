use Rattle.std.proofs.Common.{◌<◌, length, arith}
use Rattle.wasm_smith_witness.proofs.MemberLaws.{member_out}
use Rattle.wasm_smith_witness.proofs.membership.are_member_groups.Goals as goal

pub returns-in-None : goal.returns-in-None
returns-in-None c =
    let lt : c.loop-group.group-index < length c.args.groups.now = omega arith in
    (λ h. absurd cc, λ whole. absurd (member_out c.args.config.now _ _ _ _ lt c.group-item.is (rw c.deref.ensures.value at c.in-None.ensures) c.loop-group.invariant whole))
