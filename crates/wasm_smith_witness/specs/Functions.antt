-- The function types among types, as they are kept to find the places of functions.
use Rattle.std.specs.Prelude.{◌≡◌, ℕ, ◌+◌, ◌-◌, Bool, ◌&&◌, ◌||◌, nat_lt, List, [], ◌∷◌, ◌++◌, length, Option, Some, None, slice_get, if◌then◌else◌}
use Rattle.std.specs.List.{list_any}
use Rattle.std.specs.Option.{option_flatten}
use Rattle.wasm_spec.specs.Types.{SubType}
use Rattle.wasm_smith_config.specs.declared.config.Config.{Config}
use Rattle.wasm_smith_definitions.specs.FunctionTypes.{is_function, is_resultless, function_indexes}
use Rattle.wasm_smith_witness.specs.Words.{int_word}
use Rattle.wasm_smith_witness.specs.declared.functions.FunctionTypes.{FunctionTypes}

-- of each type its place among the function types, if it is one, after so many of these
abbrev pub places_after : ℕ → List (SubType ℕ) → List (Option ℕ)
places_after count [] = []
places_after count (type ∷ types) =
    if is_function type.composite_type then Some count ∷ places_after (count + 1) types else None ∷ places_after count types

-- one of the types is a function type without results
abbrev pub are_some_resultless : List (SubType ℕ) → Bool
are_some_resultless types = list_any (λ type. is_resultless type.composite_type) types

-- Of these types all but the rest are kept.
pub record AreKept (kept : FunctionTypes) (rest types : List (SubType ℕ)) : Type 0 where
  pub places : kept.places.items ++ places_after kept.count rest ≡ places_after 0 types
  pub count : kept.count + length (function_indexes 0 rest) ≡ length (function_indexes 0 types)
  pub resultless : (kept.has_resultless || are_some_resultless rest) ≡ are_some_resultless types

abbrev pub place_in : FunctionTypes → ℕ → Option ℕ
place_in kept index = option_flatten (slice_get kept.places.items index)

-- a place, among as many as are kept
abbrev pub place_word : FunctionTypes → Option ℕ → List ℕ
place_word kept (Some place) = int_word (kept.count - 1) place
place_word kept None = []

-- ---- whether the steps of imports and of tags ask for a first item

-- there is a type for a tag
abbrev pub has_tag_type : Config → FunctionTypes → Bool
has_tag_type c kept = c.exceptions_enabled && kept.has_resultless

-- an item of some kind can be imported
abbrev pub can_import : Config → FunctionTypes → Bool
can_import c kept = (nat_lt 0 kept.count && nat_lt 0 c.max_funcs) || ((has_tag_type c kept && nat_lt 0 c.max_tags) || (nat_lt 0 c.max_globals || (nat_lt 0 c.max_tables || nat_lt 0 c.max_memories)))

abbrev pub import_is_asked : Config → FunctionTypes → Bool
import_is_asked c kept = can_import c kept && nat_lt 0 c.max_imports

abbrev pub tag_is_asked : Config → FunctionTypes → Bool
tag_is_asked c kept = has_tag_type c kept && nat_lt 0 c.max_tags
