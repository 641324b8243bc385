-- Functions and tags of types that they may have keep their rules, and so does a start function without parameters and results.
use Rattle.std.proofs.Common.{◌≡◌, ℕ, true, refl, ◌∙◌, Some, None}
use Rattle.std.specs.Option.{option_to_list}
use Rattle.std.proofs.lemmas.Bool.{and_from}
use Rattle.wasm_spec.specs.Features.{Exceptions}
use Rattle.wasm_smith_config.specs.declared.config.Config.{Config}
use Rattle.wasm_smith_definitions.specs.FunctionTypes.{is_function, is_resultless}
use Rattle.wasm_smith_definitions.specs.Steps.{Allows, IsStep}
use Rattle.wasm_smith_definitions.proofs.FunctionTypeLaws.{function_at, resultless_at, thrown}
use Rattle.wasm_smith_definitions.proofs.IndexLaws.{IsPlace}
use Rattle.wasm_smith_validity.specs.Rules.{is_unit}
use Rattle.wasm_smith_validity.specs.Spaces.{Spaces, functions_of, func_type_at}
use Rattle.wasm_smith_externs.specs.Wanted.{of_function, of_tag, of_start}

pub function_allowed : (c : Config) (k : Spaces) (index : ℕ) → IsPlace (λ type. is_function type.composite_type) k.types index → Allows c k (of_function index)
function_allowed c k index place features f = function_at k.types index place

pub tag_allowed : (c : Config) (k : Spaces) (index : ℕ) → c.exceptions_enabled ≡ true → IsPlace (λ type. is_resultless type.composite_type) k.types index → Allows c k (of_tag index)
tag_allowed c k index on place features f = and_from _ _ (f Exceptions ∙ on) (thrown features (func_type_at k.types index) (resultless_at k.types index place))

-- ---- the start function

pub start_allowed : (c : Config) (k : Spaces) (function : ℕ) → IsPlace (λ index. is_unit (func_type_at k.types index)) (functions_of k) function → IsStep c of_start k k (option_to_list (Some function))
start_allowed c k function place = record {
  keep = λ features f. (rw place.is place.passes, tt);
  known = refl;
}

pub no_start : (c : Config) (k : Spaces) → IsStep c of_start k k (option_to_list None)
no_start c k = record { keep = λ features f. tt; known = refl }
