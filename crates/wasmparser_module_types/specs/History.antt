-- What the ids of a list of types stand for, by id, as groups are entered one after the other. All groups of a list come under features that agree on whether
-- types are canonicalized; where they are not, equal definitions are equal types here, with several ids.
use Rattle.std.specs.Prelude.{◌≡◌, ℕ, ◌+◌, ◌<◌, ◌≤◌, true, List, ◌++◌, Some, length, slice_get}
use Rattle.std.specs.List.{AllByRecursion}
use Rattle.wasm_spec.specs.Features.{Features, needs_type_canonicalization}
use Rattle.wasm_spec.specs.Limits.{Types, most, total_of_types}
use Rattle.wasm_spec.specs.Syntax.{members}
use Rattle.wasm_spec.specs.Trees.{DefType, types_after}
use Rattle.wasm_spec.specs.Types.{RecGroup}

-- the type is one of these
abbrev pub IsHeld : List DefType → DefType → Type 0
IsHeld held type = (id : ℕ) × (slice_get held id ≡ Some type)

-- a list that holds types has room for others: this is asked of types that it holds, too
abbrev pub HasRoom : List DefType → List DefType → Type 0
HasRoom held types = length held + length types ≤ total_of_types

-- What is held after a group whose types these are, for which there is room. Where types are canonicalized, a group whose types are held is not entered again; else
-- its types follow those that are held. A list holds whole groups, so of a group either all types are held or none is.
pub data Enters (features : Features) (held types : List DefType) : List DefType → Type 0 where
  is_held : HasRoom held types → needs_type_canonicalization features ≡ true → AllByRecursion (IsHeld held) types → Enters features held types held
  is_new : HasRoom held types → (needs_type_canonicalization features ≡ true → AllByRecursion (λ type. ¬ (IsHeld held type)) types) → Enters features held types (held ++ types)

-- The list has no room for a group: its types and the group's are more than the total, whether or not it holds the group. The module, which has the types `before`,
-- is within its own limit with it.
pub record HasNoRoom (held before : List DefType) (group : RecGroup ℕ) : Type 0 where
  pub within_limit : length (types_after before group) ≤ most Types
  pub past_total : total_of_types < length held + length (members group)
