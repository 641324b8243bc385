use Rattle.std.proofs.Common.{◌≡◌, ◌+◌, length, map}
use Rattle.wasm_spec.specs.Syntax.{members}
use Rattle.wasm_smith_validity.specs.ValidGroups.{types_of}
use Rattle.wasm_smith_shapes.specs.Shapes.{group_of}
use Rattle.wasm_smith_types.proofs.GivenLists.{left}
use Rattle.wasm_smith_types.proofs.given.types_in.Given as goal

abbrev pub invariant-loop-group : goal.invariant-loop-group
invariant-loop-group l = record { counted : l.count + left group_of members l.groups l.group-index ≡ length (types_of (map group_of l.groups)) }
