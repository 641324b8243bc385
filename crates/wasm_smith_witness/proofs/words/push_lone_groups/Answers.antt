use Rattle.std.proofs.Common.{◌<◌, ◌≤◌, length, refl, arith}
use Rattle.wasm_smith_witness.specs.Groups.{group_of}
use Rattle.wasm_smith_witness.proofs.WordLaws.{each_item, list_end}
use Rattle.wasm_smith_witness.proofs.words.push_lone_groups.Goals as goal

pub loop-group-preserved : goal.loop-group-preserved
loop-group-preserved c =
    let lt : c.loop-group.group-index < length c.args.groups.now = omega arith in
    each_item _ _ _ _ _ _ _ _ lt c.group-item.is c.in_ok-push.ensures.items (rw c.deref.ensures.value at c.in_ok-push_lone.ensures) c.loop-group.invariant

pub returns : goal.returns
returns c =
    let all : length c.args.groups.now ≤ c.loop-group.group-index = omega arith in
    list_end _ group_of _ _ _ _ _ _ _ all refl c.in_ok-push_no.ensures c.loop-group.invariant
