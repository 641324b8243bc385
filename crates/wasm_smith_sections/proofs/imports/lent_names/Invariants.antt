use Rattle.std.proofs.Common.{◌≡◌, ◌++◌, map, drop}
use Rattle.std.specs.String.{string_bytes}
use Rattle.wasm_smith_sections.proofs.imports.lent_names.Given as goal

abbrev pub invariant-loop-name : goal.invariant-loop-name
invariant-loop-name l = record {
  lent : map (λ name. name.now) l.lent.items ++ map string_bytes (drop l.name-index l.names) ≡ map string_bytes l.names;
}
