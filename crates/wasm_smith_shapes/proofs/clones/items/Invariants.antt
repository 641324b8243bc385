use Rattle.std.proofs.Common.{◌≡◌, ◌++◌, map, drop}
use Rattle.wasm_smith_shapes.specs.Imports.{import_item}
use Rattle.wasm_smith_shapes.proofs.clones.items.Given as goal

abbrev pub invariant-loop-item : goal.invariant-loop-item
invariant-loop-item l = record { copied : map import_item l.copy.items ++ map import_item (drop l.item-index l.items) ≡ map import_item l.items }
