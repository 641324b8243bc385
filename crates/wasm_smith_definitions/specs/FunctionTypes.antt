-- The function types among types, those without results, and how large they are.
use Rattle.std.specs.Prelude.{ℕ, ◌+◌, Bool, false, List, length, nat_eq, Option, Some, None, is_some}
use Rattle.wasm_spec.specs.Types.{CompositeType, FuncType, SubType}
use Rattle.wasm_validity.specs.DefinedTypes.{func_in}
use Rattle.wasm_smith_definitions.specs.Indexes.{places}

abbrev pub is_function : CompositeType ℕ → Bool
is_function composite = is_some (func_in composite)

abbrev pub lacks_results : Option (FuncType ℕ) → Bool
lacks_results None = false
lacks_results (Some type) = nat_eq (length type.results) 0

-- a function type without results, which a tag may have
abbrev pub is_resultless : CompositeType ℕ → Bool
is_resultless composite = lacks_results (func_in composite)

-- the indexes of the function types among types, the first of which has this index
abbrev pub function_indexes : ℕ → List (SubType ℕ) → List ℕ
function_indexes index types = places (λ type. is_function type.composite_type) index types

-- those of the function types without results
abbrev pub tag_indexes : ℕ → List (SubType ℕ) → List ℕ
tag_indexes index types = places (λ type. is_resultless type.composite_type) index types

-- the type of a function or a tag counts 1, and its parameters and results
abbrev pub func_size : Option (FuncType ℕ) → ℕ
func_size None = 1
func_size (Some type) = 1 + (length type.params + length type.results)
