-- The groups of a module as they are drawn.
use Rattle.std.specs.Prelude.{◌<◌, ◌==◌, ℕ, List, length, map, Option, Some, None, option_map, if◌then◌else◌}
use Rattle.std.specs.List.{AllByRecursion}
use Rattle.wasm_spec.specs.Syntax.{members}
use Rattle.wasm_spec.specs.Types.{RecGroup, Single}
use Rattle.wasm_smith_config.specs.declared.config.Config.{Config}
use Rattle.wasm_smith_types.specs.Offering.{function_types_at, gc_groups_at}
use Rattle.wasm_smith_validity.specs.ValidGroups.{entry}

-- With garbage collection, these are the groups unless one is a clone, a type has a supertype, or some types are owed. Without, each type is a group
-- by itself.
unfoldable pub drawn_groups_at : Config → List ℕ → Option (List (RecGroup ℕ) × List ℕ)
drawn_groups_at c s =
    if c.gc_enabled
    then (if c.min_types == 0 then option_map (λ drawn. (map entry drawn.0, drawn.1)) (gc_groups_at c s) else None)
    else Some (map Single (function_types_at c s).0, (function_types_at c s).1)

-- no group is empty
abbrev pub AreSome : List (RecGroup ℕ) → Type 0
AreSome groups = AllByRecursion (λ group. 0 < length (members group)) groups
