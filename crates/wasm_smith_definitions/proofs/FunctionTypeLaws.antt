-- The function types among types are those that their indexes name, and those without results may be thrown.
use Rattle.std.proofs.Common.{◌≡◌, ℕ, true, List, Option, Some, None, is_some}
use Rattle.std.proofs.lemmas.Bool.{or_left}
use Rattle.wasm_spec.specs.Features.{Features}
use Rattle.wasm_spec.specs.Types.{FuncType, SubType}
use Rattle.wasm_smith_validity.specs.Rules.{may_be_thrown}
use Rattle.wasm_smith_validity.specs.Spaces.{func_type_at}
use Rattle.wasm_smith_definitions.specs.FunctionTypes.{is_function, is_resultless, lacks_results}
use Rattle.wasm_smith_definitions.proofs.IndexLaws.{IsPlace}

-- the place of a function type, and of one without results
abbrev pub IsFunctionAt : List (SubType ℕ) → ℕ → Type 0
IsFunctionAt types index = IsPlace (λ type. is_function type.composite_type) types index

abbrev pub IsResultlessAt : List (SubType ℕ) → ℕ → Type 0
IsResultlessAt types index = IsPlace (λ type. is_resultless type.composite_type) types index

pub function_at : (types : List (SubType ℕ)) (index : ℕ) → IsFunctionAt types index → is_some (func_type_at types index) ≡ true
function_at types index place = rw place.is place.passes

pub resultless_at : (types : List (SubType ℕ)) (index : ℕ) → IsResultlessAt types index → lacks_results (func_type_at types index) ≡ true
resultless_at types index place = rw place.is place.passes

pub thrown : (features : Features) (type : Option (FuncType ℕ)) → lacks_results type ≡ true → may_be_thrown features type ≡ true
thrown features None e = absurd cc
thrown features (Some type) e = or_left _ _ e
