use Rattle.std.proofs.Common.{map}
use Rattle.wasm_core_types.specs.SubTypes.{sub_type}
use Rattle.wasm_smith_shapes.specs.Groups.{MatchesAbove}
use Rattle.wasm_smith_shapes.proofs.RangeLaws.{AllBetween}
use Rattle.wasm_smith_shapes.proofs.groups.match_above.Given as goal

abbrev pub invariant-loop-index : goal.invariant-loop-index
invariant-loop-index l = AllBetween (MatchesAbove (map sub_type l.types)) (map sub_type l.types) l.start l.index
