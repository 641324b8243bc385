use Rattle.std.proofs.Common.{◌≤◌, ◌<◌, ◌+◌, length}
use Rattle.wasm_gen_explain.specs.Operators.{PassesOperator, whole_body}
use Rattle.wasm_gen_explain.specs.Passed.{ArePassed}
use Rattle.wasm_gen_explain.proofs.OperatorLaws.{left_of}
use Rattle.wasm_gen_explain.proofs.operators.find_operator.Given as goal

-- each operator took a byte, and opened a block at most
abbrev pub invariant-operators : goal.invariant-operators
invariant-operators l = record {
  passed : ArePassed (PassesOperator l.offset) (whole_body l.initial.reader) l.number (left_of l.reader l.blocks);
  counted : l.number < l.reader.position;
  few : l.blocks ≤ l.number + 1;
}

abbrev pub decreases-operators : goal.decreases-operators
decreases-operators l = length l.reader.rest
