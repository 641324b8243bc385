use Rattle.std.proofs.Common.{◌≡◌, ◌<◌, ◌≤◌, [], drop, length, arith}
use Rattle.std.proofs.lemmas.List.{drop_all}
use Rattle.wasm_smith_witness.proofs.FunctionLaws.{next_type}
use Rattle.wasm_smith_witness.proofs.functions.FunctionTypes.push_group.Goals as goal

pub loop-type_-preserved : goal.loop-type_-preserved
loop-type_-preserved c =
    let lt : c.loop-type_.type_-index < length c.args.group.now = omega arith in
    record {
      few = c.in_ok-push.ensures.few;
      kept = λ rest types old. c.in_ok-push.ensures.kept _ types (rw (next_type _ _ _ lt c.type_-item.is) at (c.loop-type_.invariant.kept rest types old));
    }

pub returns-clause-kept : goal.returns-clause-kept
returns-clause-kept c =
    let all : length c.args.group.now ≤ c.loop-type_.type_-index = omega arith in
    let none : drop c.loop-type_.type_-index c.args.group.now ≡ [] = drop_all _ _ all in
    λ rest types old. rw none at (c.loop-type_.invariant.kept rest types old)
