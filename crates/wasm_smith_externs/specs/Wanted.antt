-- How many functions and tags a configuration asks for, and what is drawn.
use Rattle.std.specs.Prelude.{◌≡◌, ℕ, ◌<◌, ◌≤◌, Bool, false, ◌&&◌, not, List, [], length, ◌==◌, Option, Some, None, if◌then◌else◌}
use Rattle.wasm_validity.specs.Entries.{Entry, OfFunction, OfTag, OfStart}
use Rattle.wasm_smith_config.specs.declared.config.Config.{Config}
use Rattle.wasm_smith_unstructured.specs.Draws.{bool_at}
use Rattle.wasm_smith_types.specs.Growing.{grow_at}
use Rattle.wasm_smith_definitions.specs.Steps.{Wanted}
use Rattle.wasm_smith_validity.specs.Rules.{is_unit}
use Rattle.wasm_smith_validity.specs.Spaces.{Spaces, functions_of, func_type_at}
use Rattle.wasm_smith_definitions.specs.FunctionTypes.{function_indexes, tag_indexes}
use Rattle.wasm_smith_definitions.specs.Indexes.{index_at, places}

-- Items of a kind are fewer than their minimum, and none can be made any more.
pub record AreTooFew (wanted : Wanted) (k : Spaces) : Type 0 where
  pub few : wanted.count k < wanted.least
  pub none : wanted.least ≤ wanted.most → wanted.can k ≡ false

abbrev pub of_function : ℕ → Entry
of_function index = OfFunction index

-- as long as there is a function type
abbrev pub wanted_functions : Config → Wanted
wanted_functions c = record { least = c.min_funcs; most = c.max_funcs; count = λ k. length (functions_of k); can = λ k. not (length (function_indexes 0 k.types) == 0) }

-- functions after count of them, each of one of these types; where there is no type there are none
unfoldable pub functions_at : Config → List ℕ → ℕ → List ℕ → List ℕ × List ℕ
functions_at c indexes count s = if length indexes == 0 then ([], s) else grow_at (index_at indexes) c.min_funcs c.max_funcs count s

abbrev pub of_tag : ℕ → Entry
of_tag index = OfTag index

-- with exceptions, as long as there is a function type without results
abbrev pub wanted_tags : Config → Wanted
wanted_tags c = record { least = c.min_tags; most = c.max_tags; count = λ k. length k.tags; can = λ k. c.exceptions_enabled && not (length (tag_indexes 0 k.types) == 0) }

abbrev pub of_start : ℕ → Entry
of_start function = OfStart function

-- the functions without parameters and results
abbrev pub start_functions : Spaces → List ℕ
start_functions k = places (λ index. is_unit (func_type_at k.types index)) 0 (functions_of k)

-- one of these functions after a bool; where there is none, or none is allowed, nothing is drawn
unfoldable pub start_at : Bool → List ℕ → List ℕ → Option ℕ × List ℕ
start_at allowed functions s =
    if allowed && not (length functions == 0)
    then (let asked = bool_at s in if asked.0 then (let choice = index_at functions asked.1 in (Some choice.0, choice.1)) else (None, asked.1))
    else (None, s)
