use Rattle.std.proofs.Common.{◌<◌, ◌≤◌, length, arith}
use Rattle.wasm_smith_witness.proofs.WordLaws.{members_step, members_done, asks_step, asks_done}
use Rattle.wasm_smith_witness.proofs.words.push_members.Goals as goal

pub loop-type_-preserved : goal.loop-type_-preserved
loop-type_-preserved c =
    let lt : c.loop-type_.type_-index < length c.args.types.now = omega arith in
    rw c.asks_then-asks.ensures (record {
      so_far = members_step _ _ _ _ _ _ _ _ _ lt c.type_-item.is c.in_ok-push_type.ensures c.loop-type_.invariant.so_far;
      asks = asks_step _ _ _ _ _ lt c.type_-item.is c.loop-type_.invariant.asks;
    })

pub returns-clause-written : goal.returns-clause-written
returns-clause-written c =
    let all : length c.args.types.now ≤ c.loop-type_.type_-index = omega arith in
    members_done _ _ _ _ _ _ _ all c.loop-type_.invariant.so_far

pub returns-clause-asks : goal.returns-clause-asks
returns-clause-asks c =
    let all : length c.args.types.now ≤ c.loop-type_.type_-index = omega arith in
    asks_done _ _ _ _ all c.loop-type_.invariant.asks
