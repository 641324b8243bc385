use Rattle.std.proofs.Common.{◌≡◌, ◌++◌, map, drop}
use Rattle.wasm_smith_shapes.specs.Shapes.{named_item}
use Rattle.wasm_smith_shapes.proofs.clones.exports.Given as goal

abbrev pub invariant-loop-export : goal.invariant-loop-export
invariant-loop-export l = record { copied : map named_item l.copy.items ++ map named_item (drop l.export-index l.exports) ≡ map named_item l.exports }
