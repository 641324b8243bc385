use Rattle.std.proofs.Common.{◌≡◌, ◌++◌, map, drop}
use Rattle.wasm_core_types.specs.SubTypes.{sub_type}
use Rattle.wasm_smith_shapes.proofs.clones.group.Given as goal

abbrev pub invariant-loop-type_ : goal.invariant-loop-type_
invariant-loop-type_ l = record { copied : map sub_type l.copy.items ++ map sub_type (drop l.type_-index l.types) ≡ map sub_type l.types }
