-- Exports by their names.
use Rattle.std.specs.Prelude.{ℕ, Bool, List, bytes_eq, map}
use Rattle.std.specs.List.{list_any}
use Rattle.wasm_spec.specs.Syntax as spec

-- the names of exports
abbrev pub names_of : List spec.Export → List (List ℕ)
names_of exports = map (λ e. e.name) exports

-- whether some export has this name
abbrev pub is_exported : List ℕ → List spec.Export → Bool
is_exported name exports = list_any (bytes_eq name) (names_of exports)
