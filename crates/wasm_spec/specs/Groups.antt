-- Which recursive groups are well-formed, in the context of the types before them. Core Specification 3.0, Validation, Types, "Recursive
-- Types", "Composite Types", "Continuation Types" (of their proposal) and appendix "Implementation Limitations".
use Rattle.std.specs.Prelude.{◌≡◌, ◌+◌, ◌<◌, ◌≤◌, ⊤, ℕ, zero, suc, true, false, List, [], ◌∷◌, length, Some, if◌then◌else◌}
use Rattle.std.specs.List.{AllByRecursion}
use Rattle.wasm_spec.specs.Features.{Features, Gc, has}
use Rattle.wasm_spec.specs.Gates.{is_allowed_group}
use Rattle.wasm_spec.specs.Limits.{Limit, Params, Results, Fields, Depth, IsPassedBy}
use Rattle.wasm_spec.specs.Matching.{CompositeMatches}
use Rattle.wasm_spec.specs.Subtyping.{SubTypes, Declared, Defined, IsOfKind}
use Rattle.wasm_spec.specs.Syntax.{members}
use Rattle.wasm_spec.specs.Trees.{DefType, unrolled, types_of_group, types_after, type_at, RefersBelow}
use Rattle.wasm_spec.specs.TypeReferences.{sub_map}
use Rattle.wasm_spec.specs.Types.{Func, CompositeType, FuncComposite, StructComposite, ArrayComposite, ContComposite, SubType, RecGroup}

-- ---- rules over any kind of references

-- t stands for a type that is not final and that the composite type of this one matches
pub record Extends {R : Type 0} (sub_at : SubTypes R) (type : SubType R) (t : R) : Type 0 where
  pub supertype : SubType R
  pub is : sub_at t ≡ Some supertype
  pub is_open : supertype.is_final ≡ false
  pub matches : CompositeMatches sub_at type.composite_type supertype.composite_type

-- a type has at most one supertype, and extends it
pub record ExtendsSupertypes {R : Type 0} (sub_at : SubTypes R) (type : SubType R) : Type 0 where
  pub at_most_one : length type.supertypes ≤ 1
  pub each : AllByRecursion (Extends sub_at type) type.supertypes

-- a continuation type goes on with a function type
abbrev pub ContinuesFunc : {R : Type 0} → SubTypes R → CompositeType R → Type 0
ContinuesFunc sub_at (ContComposite function) = IsOfKind sub_at function Func
ContinuesFunc sub_at (FuncComposite type) = ⊤
ContinuesFunc sub_at (StructComposite fields) = ⊤
ContinuesFunc sub_at (ArrayComposite field) = ⊤

-- ---- limits over any kind of references

-- t is reached from r by so many declared links
pub data Links {R : Type 0} (sub_at : SubTypes R) : ℕ → R → R → Type 0 where
  no_link : {r : R} → Links sub_at zero r r
  one_more : {n : ℕ} {r s t : R} → Declared sub_at r s → Links sub_at n s t → Links sub_at (suc n) r t

-- so many declared links, and no more, lead upward from r
pub record HasDepth {R : Type 0} (sub_at : SubTypes R) (r : R) (n : ℕ) : Type 0 where
  pub top : R
  pub reached : Links sub_at n r top
  pub most : (m : ℕ) (t : R) → Links sub_at m r t → m ≤ n

-- how many items a type has that a limit counts
abbrev pub items_in : {R : Type 0} → CompositeType R → Limit → ℕ
items_in (FuncComposite type) Params = length type.params
items_in (FuncComposite type) Results = length type.results
items_in (StructComposite fields) Fields = length fields
items_in _ _ = 0

-- The type that r stands for passes a limit. One that is its own supertype, against the rules, also passes the limit on depth.
pub data PassesLimit {R : Type 0} (sub_at : SubTypes R) (r : R) : Limit → Type 0 where
  many_items : {limit : Limit} → Defined sub_at r (λ c. IsPassedBy limit (items_in c limit)) → PassesLimit sub_at r limit
  many_links : {n : ℕ} {t : R} → Links sub_at n r t → IsPassedBy Depth n → PassesLimit sub_at r Depth

-- ---- groups

-- The type of this index keeps the rules on supertypes, which have smaller indexes, and on continuations. types: what all indexes stand for.
pub record IsWellFormedAt (types : List DefType) (index : ℕ) (type : SubType ℕ) : Type 0 where
  pub earlier : AllByRecursion (λ supertype. supertype < index) type.supertypes
  pub extends : ExtendsSupertypes unrolled (sub_map (type_at types) type)
  pub continues : ContinuesFunc unrolled (sub_map (type_at types) type).composite_type

-- so do all of these types, the first of which has this index
abbrev pub AreWellFormedFrom : List DefType → ℕ → List (SubType ℕ) → Type 0
AreWellFormedFrom types index [] = ⊤
AreWellFormedFrom types index (type ∷ rest) = IsWellFormedAt types index type × AreWellFormedFrom types (suc index) rest

-- references below this are allowed: the own group's are a matter of garbage collection
abbrev pub reference_bound : Features → ℕ → RecGroup ℕ → ℕ
reference_bound features before group = if has features Gc then before + length (members group) else before

-- A group that comes after these types keeps all rules.
pub record KeepsGroupRules (features : Features) (before : List DefType) (group : RecGroup ℕ) : Type 0 where
  pub allowed : is_allowed_group features group ≡ true
  pub in_range : RefersBelow (reference_bound features (length before) group) group
  pub each : AreWellFormedFrom (types_after before group) (length before) (members group)

-- no type passes a limit
abbrev pub AreWithinLimits : List DefType → Type 0
AreWithinLimits types = AllByRecursion (λ type. (limit : Limit) → ¬ (PassesLimit unrolled type limit)) types

-- Rules and limits are apart: a group that breaks a rule and one that passes a limit are refused for different reasons.
abbrev pub IsWithinGroupLimits : List DefType → RecGroup ℕ → Type 0
IsWithinGroupLimits before group = AreWithinLimits (types_of_group before group)

pub record IsWellFormedGroup (features : Features) (before : List DefType) (group : RecGroup ℕ) : Type 0 where
  pub rules : KeepsGroupRules features before group
  pub within_limits : IsWithinGroupLimits before group

-- ---- type sections

-- The groups come after these types, one after the other, and each has the property in the context of the types before it.
abbrev pub AllGroups : (List DefType → RecGroup ℕ → Type 0) → List DefType → List (RecGroup ℕ) → Type 0
AllGroups Holds before [] = ⊤
AllGroups Holds before (group ∷ groups) = Holds before group × AllGroups Holds (types_after before group) groups

abbrev pub KeepGroupRules : Features → List DefType → List (RecGroup ℕ) → Type 0
KeepGroupRules features before groups = AllGroups (KeepsGroupRules features) before groups

abbrev pub AreWellFormedGroups : Features → List DefType → List (RecGroup ℕ) → Type 0
AreWellFormedGroups features before groups = AllGroups (IsWellFormedGroup features) before groups
