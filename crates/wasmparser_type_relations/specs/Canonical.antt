-- Groups of a module in canonical form: earlier types are named by their ids, and the group's own by their places in it.
use Rattle.std.specs.Prelude.{ℕ, suc, ◌+◌, ◌-◌, ◌<◌, ◌≤◌, ⊤, Bool, List, [], ◌∷◌, length, slice_get, Option, Some, None, if◌then◌else◌, ◌⊎◌}
use Rattle.std.specs.List.{AllByRecursion}
use Rattle.wasm_spec.specs.TypeReferences.{group_refs}
use Rattle.wasm_spec.specs.Types.{SubType, RecGroup}
use Rattle.wasmparser_types.specs.Index.{Index, Module, RecGroup as Place, Id}
use Rattle.wasmparser_types.specs.RecGroups.{members}

-- an earlier type's id, or else a place
abbrev pub id_or_place : Option ℕ → ℕ → Index
id_or_place (Some id) place = Id id
id_or_place None place = Place place

-- what a type index becomes in a group after the types with these ids
abbrev pub canonical_index : List ℕ → Index → Index
canonical_index ids (Module index) = id_or_place (slice_get ids index) (index - length ids)
canonical_index ids (Place place) = Place place
canonical_index ids (Id id) = Id id

-- a type index, if it is one, is below this
abbrev pub IsBelow : ℕ → Index → Type 0
IsBelow bound (Module index) = index < bound
IsBelow bound (Place place) = ⊤
IsBelow bound (Id id) = ⊤

-- the type of this index has at most one supertype, which is earlier
pub record HasEarlierSupertype (index : ℕ) (type : SubType Index) : Type 0 where
  pub at_most_one : length type.supertypes ≤ 1
  pub earlier : AllByRecursion (IsBelow index) type.supertypes

-- so have all of these types, the first of which has this index
abbrev pub HaveEarlierSupertypes : ℕ → List (SubType Index) → Type 0
HaveEarlierSupertypes index [] = ⊤
HaveEarlierSupertypes index (type ∷ types) = HasEarlierSupertype index type × HaveEarlierSupertypes (suc index) types

-- type indexes in a group of so many types, after so many others, are below this: the group's own are a matter of garbage collection
abbrev pub index_bound : Bool → ℕ → ℕ → ℕ
index_bound gc before count = if gc then before + count else before

-- a group, after so many types, breaks a rule on its type indexes
abbrev pub IsNotCanonical : Bool → ℕ → RecGroup Index → Type 0
IsNotCanonical gc before group =
    (¬ (HaveEarlierSupertypes before (members group))) ⊎ (¬ (AllByRecursion (IsBelow (index_bound gc before (length (members group)))) (group_refs group)))
