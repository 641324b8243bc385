-- The groups that the types of a valid module come from.
use Rattle.std.specs.Prelude.{◌≡◌, ℕ, List, []}
use Rattle.wasm_spec.specs.Features.{Features}
use Rattle.wasm_spec.specs.Groups.{KeepGroupRules}
use Rattle.wasm_spec.specs.Trees.{DefType, section_types}
use Rattle.wasm_spec.specs.Types.{RecGroup}

-- These are the types of groups that come one after the other and keep the rules.
pub record AreOfGroups (features : Features) (defined : List DefType) : Type 0 where
  pub groups : List (RecGroup ℕ)
  pub rules : KeepGroupRules features [] groups
  pub types : defined ≡ section_types groups
