-- The part of the rules on types that the test of subtyping by index asks for.
use Rattle.std.specs.Prelude.{◌≡◌, ◌≤◌, ℕ, List, Some, slice_get}
use Rattle.std.specs.List.{AllByRecursion}
use Rattle.wasm_spec.specs.Subtyping.{IsOfKind, abstract_of}
use Rattle.wasm_spec.specs.Types.{SubType}
use Rattle.wasm_smith_validity.specs.ValidGroups.{HasHeight}

-- The type of this index has supertypes of its own kind alone, and isn't too deep.
pub record IsLinked (types : List (SubType ℕ)) (index : ℕ) (type : SubType ℕ) : Type 0 where
  pub kinds : AllByRecursion (λ supertype. IsOfKind (slice_get types) supertype (abstract_of type.composite_type)) type.supertypes
  pub depth : (height : ℕ) × HasHeight (slice_get types) height index × (height ≤ 63)

-- each of the types does
abbrev pub AreLinked : List (SubType ℕ) → Type 0
AreLinked types = (index : ℕ) (type : SubType ℕ) → slice_get types index ≡ Some type → IsLinked types index type
