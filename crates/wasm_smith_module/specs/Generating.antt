-- The first draws of a module: its types, then, where no import and no tag is made, its functions; and the bytes that are left then.
use Rattle.std.specs.Prelude.{◌≡◌, ℕ, ◌+◌, Bool, false, ◌||◌, List, [], map, is_some, Option, Some, None, option_map, if◌then◌else◌}
use Rattle.std.specs.Option.{option_and_then}
use Rattle.wasm_spec.specs.Types.{RecGroup}
use Rattle.wasm_smith_config.specs.declared.config.Config.{Config}
use Rattle.wasm_smith_definitions.specs.FunctionTypes.{function_indexes}
use Rattle.wasm_smith_externs.specs.Wanted.{functions_at, wanted_tags}
use Rattle.wasm_smith_externs.specs.Imports.{asked_imports}
use Rattle.wasm_smith_definitions.specs.Steps.{asked}
use Rattle.wasm_smith_types.specs.DrawnGroups.{drawn_groups_at}
use Rattle.wasm_smith_module.specs.Asked.{import_bounds}
use Rattle.wasm_smith_validity.specs.ValidGroups.{types_of}
use Rattle.wasm_smith_validity.specs.Made.{Made, MadeBody}
use Rattle.wasm_smith_validity.specs.Spaces.{spaces_of_types}

-- the bytes that are left where the first draw of a step says that no item is made
abbrev pub left_unless_made : Bool × List ℕ → Option (List ℕ)
left_unless_made first = if first.0 then None else Some first.1

-- the bytes that are left after imports and tags, where there are these groups and none is made
abbrev pub left_for_functions : Config → List (RecGroup ℕ) → List ℕ → Option (List ℕ)
left_for_functions c groups s =
    option_and_then (λ left. left_unless_made (asked (wanted_tags c) (spaces_of_types (types_of groups)) left))
    (left_unless_made (asked_imports c (import_bounds c (types_of groups)) (spaces_of_types (types_of groups)) s))

-- the functions, where no import comes before them
abbrev pub with_functions : Config → List (RecGroup ℕ) → List ℕ → (List (RecGroup ℕ) × List ℕ) × List ℕ
with_functions c groups s =
    let funcs = functions_at c (function_indexes 0 (types_of groups)) 0 s in
    ((groups, funcs.0), funcs.1)

-- a configuration has a shape
abbrev pub has_shape : Config → Bool
has_shape c = is_some c.module_shape || (is_some c.available_imports || is_some c.exports)

-- The groups, then the functions; only where there are no shapes, the groups are drawn so, and the draws that come between say that there is no import and no tag.
unfoldable pub front_at : Config → List ℕ → Option ((List (RecGroup ℕ) × List ℕ) × List ℕ)
front_at c s =
    if has_shape c then None else option_and_then (λ drawn. option_map (with_functions c drawn.0) (left_for_functions c drawn.0 drawn.1)) (drawn_groups_at c s)

-- ---- nothing but types and functions

abbrev pub bare_body : MadeBody
bare_body = record { locals = []; raw = None }

-- a module of these groups and functions, whose bodies are `unreachable` without locals
abbrev pub bare_module : List (RecGroup ℕ) → List ℕ → Made
bare_module groups funcs = record {
  groups = groups;
  imports = [];
  funcs = funcs;
  tables = [];
  memories = [];
  tags = [];
  globals = [];
  exports = [];
  start = None;
  elems = [];
  data_segments = [];
  bodies = map (λ _. bare_body) funcs;
  customs = [];
}

-- no minimum of what is drawn after the functions is above 0, and not everything is exported
pub record OwesNothingElse (c : Config) : Type 0 where
  pub minimums : c.min_tables + c.min_memories + c.min_globals + c.min_exports + c.min_element_segments + c.min_data_segments ≡ 0
  pub no_exports : c.export_everything ≡ false

-- A module that is made has the groups and the functions that are drawn, no imports and no tags. Where no bytes are left after the functions, and nothing
-- else is owed, it has nothing else.
pub record HasFront (c : Config) (drawn : (List (RecGroup ℕ) × List ℕ) × List ℕ) (m : Made) (left : List ℕ) : Type 0 where
  pub groups : m.groups ≡ drawn.0.0
  pub funcs : m.funcs ≡ drawn.0.1
  pub imports : m.imports ≡ []
  pub tags : m.tags ≡ []
  pub alone : drawn.1 ≡ [] → OwesNothingElse c → (m ≡ bare_module drawn.0.0 drawn.0.1) × (left ≡ [])
