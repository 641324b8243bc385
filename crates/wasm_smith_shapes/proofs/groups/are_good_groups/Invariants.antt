use Rattle.std.proofs.Common.{map}
use Rattle.wasm_core_types.specs.Features.{feature_set}
use Rattle.wasm_core_types.specs.SubTypes.{sub_type}
use Rattle.wasm_smith_shapes.proofs.GroupWalk.{IsAsFar}
use Rattle.wasm_smith_shapes.proofs.groups.are_good_groups.Given as goal

abbrev pub invariant-loop-group : goal.invariant-loop-group
invariant-loop-group l = IsAsFar (feature_set l.features) l.purpose l.groups (map sub_type l.types) l.group-index l.start
