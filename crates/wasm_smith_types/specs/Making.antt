-- The types of a module in the making.
use Rattle.std.specs.Prelude.{◌≡◌, ◌≤◌, ℕ, false, List, [], ◌∷◌, ◌++◌, map, length, nat_lt, Bool, Some, slice_get}
use Rattle.std.specs.List.{AllByRecursion}
use Rattle.wasm_core_types.specs.SubTypes.{sub_type}
use Rattle.wasm_spec.specs.Features.{Features}
use Rattle.wasm_spec.specs.Types.{SubType}
use Rattle.wasm_smith_types.specs.declared.candidates.Candidate.{Candidate}
use Rattle.wasm_smith_types.specs.declared.types.Types.{Types}
use Rattle.wasm_smith_types.specs.Drawing.{Offers, asks_then, asked_after, members_at}
use Rattle.wasm_smith_types.specs.Permitted.{IsPermittedComposite, Suits}
use Rattle.wasm_smith_validity.specs.ValidGroups.{HasHeight, KeepsTypeRules}

-- the types, by type index
abbrev pub made : Types → List (SubType ℕ)
made t = map sub_type t.types.items

-- one of the types that may have a type below it
pub record IsCandidate (types : List (SubType ℕ)) (candidate : Candidate) : Type 0 where
  pub type : SubType ℕ
  pub is : slice_get types candidate.index ≡ Some type
  pub is_open : type.is_final ≡ false
  pub height : HasHeight (slice_get types) candidate.height candidate.index
  pub low : candidate.height ≤ 62

abbrev pub AreCandidates : List (SubType ℕ) → List Candidate → Type 0
AreCandidates types candidates = AllByRecursion (IsCandidate types) candidates

-- a type that keeps the rules among these types, and is permitted with references below end
pub record IsMember (features : Features) (end : ℕ) (types : List (SubType ℕ)) (index : ℕ) (type : SubType ℕ) : Type 0 where
  pub rules : KeepsTypeRules types index type
  pub permitted : IsPermittedComposite features end type.composite_type

abbrev pub AreMembers : Features → ℕ → List (SubType ℕ) → Type 0
AreMembers features end types = (index : ℕ) (type : SubType ℕ) → slice_get types index ≡ Some type → IsMember features end types index type

-- there is a type to choose as a supertype
abbrev pub has_candidates : Types → Bool
has_candidates t = nat_lt 0 (length t.candidates.items)

-- The drawn type is added, and these bytes are left.
pub record AddsDrawn (drawn : SubType ℕ × List ℕ) (old new : Types) (left : List ℕ) : Type 0 where
  pub added : made new ≡ made old ++ drawn.0 ∷ []
  pub at : left ≡ drawn.1
  pub asks : has_candidates new ≡ asks_then (has_candidates old) drawn.0

-- One type is added. Where all kept the rules before, all do, whatever the new one is.
pub record Adds (offers : Offers) (end : ℕ) (old new : Types) : Type 0 where
  pub type : SubType ℕ
  pub added : made new ≡ made old ++ type ∷ []
  pub sizes : new.sizes.items ≡ old.sizes.items
  pub candidates : AreCandidates (made new) new.candidates.items
  pub members : (features : Features) → Suits features offers → AreMembers features end (made old) → AreMembers features end (made new)

-- Several types are added. Where all kept the rules before, all do.
pub record AddsAll (offers : Offers) (end count : ℕ) (old new : Types) : Type 0 where
  pub types : List (SubType ℕ)
  pub many : length types ≡ count
  pub added : made new ≡ made old ++ types
  pub sizes : new.sizes.items ≡ old.sizes.items
  pub candidates : AreCandidates (made new) new.candidates.items
  pub members : (features : Features) → Suits features offers → AreMembers features end (made old) → AreMembers features end (made new)

-- The drawn types are added, and these bytes are left.
pub record AddsAllDrawn (drawn : List (SubType ℕ) × List ℕ) (old new : Types) (left : List ℕ) : Type 0 where
  pub added : made new ≡ made old ++ drawn.0
  pub at : left ≡ drawn.1
  pub asks : has_candidates new ≡ asked_after (has_candidates old) drawn.0

-- Of what is drawn in all, this is drawn of the types that are left.
pub record IsLeft (offers : Offers) (end left : ℕ) (drawn : List (SubType ℕ) × List ℕ) (old now : Types) (s : List ℕ) : Type 0 where
  pub rest : List (SubType ℕ)
  pub draws : members_at offers end (has_candidates now) left s ≡ Some (rest, drawn.1)
  pub parts : made old ++ drawn.0 ≡ made now ++ rest
  pub asks : asked_after (has_candidates now) rest ≡ asked_after (has_candidates old) drawn.0
