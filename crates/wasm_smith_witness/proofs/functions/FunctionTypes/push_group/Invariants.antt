use Rattle.std.proofs.Common.{◌++◌, ◌≤◌, List, ℕ, drop, length, map}
use Rattle.wasm_core_types.specs.SubTypes.{sub_type}
use Rattle.wasm_spec.specs.Types.{SubType}
use Rattle.wasm_smith_witness.specs.Functions.{AreKept}
use Rattle.wasm_smith_witness.proofs.functions.FunctionTypes.push_group.Given as goal

abbrev pub invariant-loop-type_ : goal.invariant-loop-type_
invariant-loop-type_ l = record {
  few : l.self.count ≤ length l.self.places.items;
  kept : (rest types : List (SubType ℕ)) → AreKept l.fn.self (map sub_type l.group ++ rest) types → AreKept l.self (map sub_type (drop l.type_-index l.group) ++ rest) types;
}
