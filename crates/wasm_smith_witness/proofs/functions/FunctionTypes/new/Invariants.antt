use Rattle.std.proofs.Common.{◌≤◌, drop, length, map}
use Rattle.wasm_smith_witness.specs.Family.{types_of}
use Rattle.wasm_smith_witness.specs.Functions.{AreKept}
use Rattle.wasm_smith_witness.specs.Groups.{group_of}
use Rattle.wasm_smith_witness.proofs.functions.FunctionTypes.new.Given as goal

abbrev pub invariant-loop-group : goal.invariant-loop-group
invariant-loop-group l = record {
  few : l.types.count ≤ length l.types.places.items;
  kept : AreKept l.types (types_of (map group_of (drop l.group-index l.groups))) (types_of (map group_of l.groups));
}
