-- Limits on how many parameters, results and fields types have, which a group passes or keeps as it is written, whatever types it refers to.
use Rattle.std.specs.Prelude.{◌≡◌, ℕ, List, Some, slice_get}
use Rattle.std.specs.List.{AllByRecursion}
use Rattle.wasm_spec.specs.Groups.{items_in}
use Rattle.wasm_spec.specs.Limits.{Limit, IsPassedBy}
use Rattle.wasm_spec.specs.Types.{SubType}

-- none of these types has more items than a limit lets through
abbrev pub HaveFewItems : {R : Type 0} → List (SubType R) → Type 0
HaveFewItems types = AllByRecursion (λ type. (limit : Limit) → ¬ (IsPassedBy limit (items_in type.composite_type limit))) types

-- one of these types has more items than this limit lets through
pub record HaveManyItems {R : Type 0} (types : List (SubType R)) (limit : Limit) : Type 0 where
  pub place : ℕ
  pub type : SubType R
  pub at : slice_get types place ≡ Some type
  pub passes : IsPassedBy limit (items_in type.composite_type limit)
