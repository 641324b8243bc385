use Rattle.wasm_smith_validity.specs.Below.{seen}
use Rattle.wasm_smith_shapes.proofs.Fronts.{IsAsFar}
use Rattle.wasm_smith_shapes.proofs.matching.front_matches.Given as goal

abbrev pub invariant-loop-index : goal.invariant-loop-index
invariant-loop-index g l = IsAsFar (g.T.Matches.matching (seen l.types)) g.T.Matches.meaning l.items l.others l.index
