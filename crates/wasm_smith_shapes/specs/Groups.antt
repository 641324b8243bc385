-- The rules on a group one by one, as they are checked.
use Rattle.std.specs.Prelude.{◌≡◌, ◌<◌, ◌≤◌, ℕ, List, slice_get, Some}
use Rattle.std.specs.List.{AllByRecursion}
use Rattle.wasm_spec.specs.Groups.{Extends}
use Rattle.wasm_spec.specs.Subtyping.{IsOfKind, abstract_of}
use Rattle.wasm_spec.specs.Types.{SubType}
use Rattle.wasm_smith_validity.specs.Linked.{IsLinked}

-- each type from this index on has a property
abbrev pub AllFrom : (ℕ → SubType ℕ → Type 0) → List (SubType ℕ) → ℕ → Type 0
AllFrom Holds types start = (index : ℕ) (type : SubType ℕ) → start ≤ index → slice_get types index ≡ Some type → Holds index type

-- its supertype is of its kind
abbrev pub HasKindAbove : List (SubType ℕ) → SubType ℕ → Type 0
HasKindAbove types type = AllByRecursion (λ supertype. IsOfKind (slice_get types) supertype (abstract_of type.composite_type)) type.supertypes

-- Its supertype is earlier and of its kind, and not too many stand above it.
pub record HasLinks (types : List (SubType ℕ)) (index : ℕ) (type : SubType ℕ) : Type 0 where
  pub earlier : AllByRecursion (λ supertype. supertype < index) type.supertypes
  pub linked : IsLinked types index type

-- it matches its supertype, which isn't final
abbrev pub MatchesAbove : List (SubType ℕ) → ℕ → SubType ℕ → Type 0
MatchesAbove types index type = AllByRecursion (Extends (slice_get types) type) type.supertypes
