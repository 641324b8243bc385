use Rattle.std.proofs.Common.{map, drop}
use Rattle.wasm_smith_shapes.specs.Shapes.{named_item}
use Rattle.wasm_smith_shapes.proofs.NameWalk.{AreSeen}
use Rattle.wasm_smith_shapes.proofs.distinct.have_distinct_names.Given as goal

abbrev pub invariant-loop-export : goal.invariant-loop-export
invariant-loop-export l = AreSeen (map (λ export. export.name) (map named_item l.exports)) (map (λ export. export.name) (map named_item (drop l.export-index l.exports))) l.names
