-- Which recursive groups are valid by index (Core Specification 3.0, Validation, Types, "Recursive Types", "Composite Types", and appendix
-- "Implementation Limitations"). A type is its index, and subtyping knows what is declared by index alone. The rules are the generic ones of
-- `wasm_spec`, taken at `slice_get types`. A reader has to believe this.
use Rattle.std.specs.Prelude.{◌≡◌, ◌+◌, ◌<◌, ◌≤◌, ⊤, ℕ, true, List, [], ◌∷◌, ◌++◌, length, Some, slice_get}
use Rattle.std.specs.List.{AllByRecursion, flat_map}
use Rattle.wasm_spec.specs.Features.{Features}
use Rattle.wasm_spec.specs.Gates.{is_allowed_group}
use Rattle.wasm_spec.specs.Groups.{ExtendsSupertypes, ContinuesFunc, Links, reference_bound}
use Rattle.wasm_spec.specs.Subtyping.{SubTypes}
use Rattle.wasm_spec.specs.Syntax.{members}
use Rattle.wasm_spec.specs.Trees.{RefersBelow}
use Rattle.wasm_spec.specs.Types.{SubType, RecGroup, Single, Group}

-- so many declared links lead up from r to a type without supertypes
pub record HasHeight {R : Type 0} (sub_at : SubTypes R) (height : ℕ) (r : R) : Type 0 where
  pub top : R
  pub links : Links sub_at height r top
  pub type : SubType R
  pub is : sub_at top ≡ Some type
  pub none : type.supertypes ≡ []

-- The type of this index keeps the rules on supertypes, which have smaller indexes, on continuations and on depth, among these types.
pub record KeepsTypeRules (types : List (SubType ℕ)) (index : ℕ) (type : SubType ℕ) : Type 0 where
  pub earlier : AllByRecursion (λ supertype. supertype < index) type.supertypes
  pub extends : ExtendsSupertypes (slice_get types) type
  pub continues : ContinuesFunc (slice_get types) type.composite_type
  pub depth : (height : ℕ) × HasHeight (slice_get types) height index × (height ≤ 63)

-- each of the types does
abbrev pub AllKeepTypeRules : List (SubType ℕ) → Type 0
AllKeepTypeRules types = (index : ℕ) (type : SubType ℕ) → slice_get types index ≡ Some type → KeepsTypeRules types index type

-- A group that comes after these types keeps the gates, refers to earlier groups or with garbage collection to itself, and its types keep the rules.
pub record IsValidGroup (features : Features) (before : List (SubType ℕ)) (group : RecGroup ℕ) : Type 0 where
  pub allowed : is_allowed_group features group ≡ true
  pub in_range : RefersBelow (reference_bound features (length before) group) group
  pub rules : (place : ℕ) (type : SubType ℕ) → slice_get (members group) place ≡ Some type
      → KeepsTypeRules (before ++ members group) (length before + place) type

-- so do groups that come after these types, one after the other
abbrev pub AreValidAfter : Features → List (SubType ℕ) → List (RecGroup ℕ) → Type 0
AreValidAfter features before [] = ⊤
AreValidAfter features before (group ∷ groups) = IsValidGroup features before group × AreValidAfter features (before ++ members group) groups

abbrev pub AreValidGroups : Features → List (RecGroup ℕ) → Type 0
AreValidGroups features groups = AreValidAfter features [] groups

-- the types of groups, by type index
abbrev pub types_of : List (RecGroup ℕ) → List (SubType ℕ)
types_of groups = flat_map members groups

-- types as a group, which of one type is written as that type alone
abbrev pub entry : {R : Type 0} → List (SubType R) → RecGroup R
entry (type ∷ []) = Single type
entry types = Group types
