use Rattle.std.proofs.Common.{◌≡◌, ◌++◌, map, drop}
use Rattle.wasm_smith_shapes.specs.Shapes.{group_of}
use Rattle.wasm_smith_shapes.proofs.clones.groups.Given as goal

abbrev pub invariant-loop-types : goal.invariant-loop-types
invariant-loop-types l = record { copied : map group_of l.copy.items ++ map group_of (drop l.types-index l.groups) ≡ map group_of l.groups }
