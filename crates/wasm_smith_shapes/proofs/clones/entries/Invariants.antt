use Rattle.std.proofs.Common.{◌≡◌, ◌++◌, map, drop}
use Rattle.wasm_smith_shapes.specs.Imports.{import_entry}
use Rattle.wasm_smith_shapes.proofs.clones.entries.Given as goal

abbrev pub invariant-loop-lent : goal.invariant-loop-lent
invariant-loop-lent l = record { copied : map import_entry l.copy.items ++ map import_entry (drop l.lent-index l.entries) ≡ map import_entry l.entries }
