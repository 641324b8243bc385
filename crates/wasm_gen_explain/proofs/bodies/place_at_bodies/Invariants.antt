use Rattle.std.proofs.Common.{◌≤◌, ◌+◌}
use Rattle.wasm_gen_explain.specs.Bodies.{PassesBody}
use Rattle.wasm_gen_explain.specs.Passed.{ArePassed}
use Rattle.wasm_gen_explain.proofs.bodies.place_at_bodies.Given as goal

abbrev pub invariant-loop-number : goal.invariant-loop-number
invariant-loop-number l = record {
  passed : ArePassed (PassesBody l.offset) l.initial.reader l.number l.reader;
  few : l.imported + l.number ≤ l.reader.position;
}
