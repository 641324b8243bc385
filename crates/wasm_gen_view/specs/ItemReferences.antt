-- References of items, which stand outside of groups.
use Rattle.std.specs.Prelude.{ℕ, length, Some}
use Rattle.wasm_gen_view.specs.TypeNumbers.{reference_by}
use Rattle.wasm_gen_view.specs.declared.type_numbers.TypeNumbers.{TypeNumbers}
use Rattle.wasm_gen_view.specs.declared.types.TypeReference.{TypeReference}

-- the reference to the type of an index, as the types are numbered
abbrev pub refer : TypeNumbers → ℕ → TypeReference
refer numbers index = reference_by (Some (length numbers.groups)) numbers.places.items index
