use Rattle.std.proofs.Common.{◌<◌, ◌≤◌, length, arith}
use Rattle.wasm_smith_witness.proofs.WordLaws.{lone_step, lone_done}
use Rattle.wasm_smith_witness.proofs.words.push_lone.Goals as goal

pub loop-type_-preserved : goal.loop-type_-preserved
loop-type_-preserved c =
    let lt : c.loop-type_.type_-index < length c.args.group.now = omega arith in
    lone_step _ _ _ _ _ _ _ lt c.type_-item.is c.in_ok-push_lone_composite.ensures c.loop-type_.invariant

pub returns : goal.returns
returns c =
    let all : length c.args.group.now ≤ c.loop-type_.type_-index = omega arith in
    lone_done _ _ _ _ _ all c.loop-type_.invariant
