use Rattle.std.proofs.Common.{◌≡◌, ◌++◌, map, drop}
use Rattle.wasm_core_types.specs.SubTypes.{sub_type}
use Rattle.wasm_smith_shapes.proofs.flat.push_types.Given as goal

abbrev pub invariant-loop-type_ : goal.invariant-loop-type_
invariant-loop-type_ l = record {
  added : map sub_type l.types.items ++ map sub_type (drop l.type_-index l.group) ≡ map sub_type l.fn.types.items ++ map sub_type l.group;
}
