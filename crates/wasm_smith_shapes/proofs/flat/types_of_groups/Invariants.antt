use Rattle.std.proofs.Common.{◌≡◌, ◌++◌, map}
use Rattle.wasm_core_types.specs.SubTypes.{sub_type}
use Rattle.wasm_spec.specs.Syntax.{members}
use Rattle.wasm_smith_validity.specs.ValidGroups.{types_of}
use Rattle.wasm_smith_shapes.specs.Shapes.{group_of}
use Rattle.wasm_smith_shapes.proofs.FlatLaws.{rest}
use Rattle.wasm_smith_shapes.proofs.flat.types_of_groups.Given as goal

abbrev pub invariant-loop-group : goal.invariant-loop-group
invariant-loop-group l = record { added : map sub_type l.types.items ++ rest group_of members l.groups l.group-index ≡ types_of (map group_of l.groups) }
