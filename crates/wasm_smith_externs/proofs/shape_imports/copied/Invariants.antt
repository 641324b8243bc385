use Rattle.std.proofs.Common.{◌≡◌, ◌++◌, map, drop}
use Rattle.std.specs.String.{string_bytes}
use Rattle.wasm_smith_externs.proofs.shape_imports.copied.Given as goal

abbrev pub invariant-loop-name : goal.invariant-loop-name
invariant-loop-name l = record { copied : map string_bytes l.copy.items ++ map string_bytes (drop l.name-index l.names) ≡ map string_bytes l.names }
