-- Chains of supertypes.
use Rattle.std.specs.Prelude.{◌≡◌, ℕ, suc, ◌<◌, ◌≤◌, nat_lt, List, [], ◌∷◌, ◌++◌, length, slice_get, Option, Some, None, if◌then◌else◌}
use Rattle.wasm_spec.specs.Subtyping.{SubTypes, IsOfKind, Link, abstract_of}
use Rattle.wasm_spec.specs.Types.{SubType}
use Rattle.wasmparser_types.specs.Index.{Index, Module, RecGroup, Id, core_type_id}

-- the sub types that indexes stand for, where ids alone stand for types
abbrev pub by_id : (ℕ → Option (SubType Index)) → SubTypes Index
by_id type_at (Id n) = type_at n
by_id type_at (Module n) = None
by_id type_at (RecGroup n) = None

-- a declared link that counts, from the type of one id to that of another
abbrev pub IsLinked : (ℕ → Option (SubType Index)) → ℕ → ℕ → Type 0
IsLinked type_at n t = Link (by_id type_at) (Id n) (Id t)

-- The ids are those of a type's supertypes, from the greatest one down to the type itself, and no type among them has another supertype.
pub data IsChain (type_at : ℕ → Option (SubType Index)) : List ℕ → ℕ → Type 0 where
  greatest : (n : ℕ) → ((t : ℕ) → ¬ (IsLinked type_at n t)) → IsChain type_at (n ∷ []) n
  below : {chain : List ℕ} {t : ℕ} → IsChain type_at chain t → (n : ℕ) → IsLinked type_at n t → ((u : ℕ) → IsLinked type_at n u → u ≡ t)
      → IsChain type_at (chain ++ n ∷ []) n

-- a type that is known and within the limit on depth has a chain of at most 64 types
pub record HasChain (type_at : ℕ → Option (SubType Index)) (n : ℕ) : Type 0 where
  pub type : SubType Index
  pub known : type_at n ≡ Some type
  pub chain : List ℕ
  pub is_chain : IsChain type_at chain n
  pub within : length chain ≤ 64

-- a type has a chain, in which so many supertypes stand above it
abbrev pub IsDepth : (ℕ → Option (SubType Index)) → ℕ → ℕ → Type 0
IsDepth type_at n depth = (has : HasChain type_at n) × (length has.chain ≡ suc depth)

-- ---- the chains that are kept beside types

-- what is declared as the first supertype, if it is an id
abbrev pub supertype_in : List Index → Option ℕ
supertype_in [] = None
supertype_in (index ∷ others) = core_type_id index

-- the chain of an id, where it is known and has one
abbrev pub chain_of : Option (Option (List ℕ)) → Option (List ℕ)
chain_of (Some chain) = chain
chain_of None = None

-- the chain of a type whose supertype has this one, if no more than 63 supertypes are in it
abbrev pub longer : Option (List ℕ) → ℕ → Option (List ℕ)
longer (Some chain) n = if nat_lt (length chain) 64 then Some (chain ++ n ∷ []) else None
longer None n = None

abbrev pub chain_below : List (Option (List ℕ)) → Option ℕ → Option (List ℕ)
chain_below chains None = Some (length chains ∷ [])
chain_below chains (Some t) = longer (chain_of (slice_get chains t)) (length chains)

-- the chain of the type that comes after those with these chains
abbrev pub chain_after : List (Option (List ℕ)) → SubType Index → Option (List ℕ)
chain_after chains type = chain_below chains (supertype_in type.supertypes)

-- these chains, and those of types that come after them
abbrev pub chains_after : List (Option (List ℕ)) → List (SubType Index) → List (Option (List ℕ))
chains_after chains [] = chains
chains_after chains (type ∷ types) = chains_after (chains ++ chain_after chains type ∷ []) types

-- ---- lists of types

-- what a type declares above it: nothing, or one earlier type of its own kind
pub data IsBelowEarlier (type_at : ℕ → Option (SubType Index)) (n : ℕ) (type : SubType Index) : Type 0 where
  below_none : type.supertypes ≡ [] → IsBelowEarlier type_at n type
  below_one : (t : ℕ) → type.supertypes ≡ Id t ∷ [] → t < n → IsOfKind (by_id type_at) (Id t) (abstract_of type.composite_type) → IsBelowEarlier type_at n type

-- so do all types
abbrev pub AreBelowEarlier : (ℕ → Option (SubType Index)) → Type 0
AreBelowEarlier type_at = (n : ℕ) (type : SubType Index) → type_at n ≡ Some type → IsBelowEarlier type_at n type

-- a type stands in a chain, at the place of its own depth, which its own chain tells
abbrev pub StandsIn : Option (List ℕ) → List ℕ → ℕ → Type 0
StandsIn (Some own) chain id = (depth : ℕ) × (length own ≡ suc depth) × (slice_get chain depth ≡ Some id)
StandsIn None chain id = ⊥
