-- Functions and tags with the sizes of their types.
use Rattle.std.specs.Prelude.{ℕ, suc, Bool, List, [], ◌∷◌, nat_le}
use Rattle.wasm_spec.specs.Types.{SubType}
use Rattle.wasm_smith_definitions.specs.FunctionTypes.{func_size}
use Rattle.wasm_smith_validity.specs.Spaces.{func_type_at}
use Rattle.wasm_smith_externs.specs.declared.fitting.SizedItem.{SizedItem}

-- an item's type fits into what is left
abbrev pub fits : ℕ → SizedItem → Bool
fits left item = nat_le item.size left

-- functions or tags with these type indexes, the first of which has this index
abbrev pub sized : List (SubType ℕ) → ℕ → List ℕ → List SizedItem
sized types index [] = []
sized types index (type ∷ others) = record { index = index; size = func_size (func_type_at types type) } ∷ sized types (suc index) others
