use Rattle.std.proofs.Common.{arith, ◌<◌, ◌≤◌, length}
use Rattle.wasm_smith_witness.proofs.WordLaws.{each_step, each_done}
use Rattle.wasm_smith_witness.proofs.words.push_functions.Goals as goal

pub loop-index-preserved : goal.loop-index-preserved
loop-index-preserved c =
    let lt : c.loop-index.index-index < length c.args.funcs.now = omega arith in
    each_step _ _ _ _ _ _ _ _ lt c.in_ok-push.ensures.items (rw c.place.ensures at c.in_ok-push_place.ensures) c.loop-index.invariant

pub returns : goal.returns
returns c =
    let all : length c.args.funcs.now ≤ c.loop-index.index-index = omega arith in
    each_done _ _ _ _ _ all c.loop-index.invariant
