-- The types of a module in the making, as groups.
use Rattle.std.specs.Prelude.{◌≡◌, ◌<◌, ◌+◌, ◌-◌, ℕ, List, [], ◌∷◌, ◌++◌, length, map, take, drop, Some}
use Rattle.wasm_spec.specs.Features.{Features}
use Rattle.wasm_spec.specs.TypeReferences.{sub_map}
use Rattle.wasm_spec.specs.Types.{SubType, RecGroup}
use Rattle.wasm_smith_types.specs.declared.fitting.Span.{Span}
use Rattle.wasm_smith_types.specs.declared.types.Types.{Types}
use Rattle.wasm_smith_types.specs.Copies.{shifted_index}
use Rattle.wasm_smith_types.specs.Drawing.{Offers, Front, front_then, groups_at, total}
use Rattle.wasm_smith_types.specs.Making.{made, has_candidates, AreCandidates, AreMembers}
use Rattle.wasm_smith_validity.specs.ValidGroups.{AreValidGroups, entry}

-- types as groups of these sizes
abbrev pub grouped : List ℕ → List (SubType ℕ) → List (RecGroup ℕ)
grouped [] types = []
grouped (size ∷ sizes) types = entry (take size types) ∷ grouped sizes (drop size types)

abbrev pub groups : Types → List (RecGroup ℕ)
groups t = grouped t.sizes.items (made t)

-- the groups have all types
abbrev pub AreWhole : Types → Type 0
AreWhole t = total t.sizes.items ≡ length (made t)

-- The groups are valid by index, and each type is permitted.
pub record AreDone (features : Features) (t : Types) : Type 0 where
  pub valid : AreValidGroups features (groups t)
  pub members : AreMembers features (length (made t)) (made t)

-- A group is added. Under features for which what is offered may be drawn, all groups are valid if all were before, whatever the new one is.
pub record AddsGroup (May : Features → Type 0) (old new : Types) : Type 0 where
  pub size : ℕ
  pub sizes : new.sizes.items ≡ old.sizes.items ++ size ∷ []
  pub whole : AreWhole new
  pub candidates : AreCandidates (made new) new.candidates.items
  pub done : (features : Features) → May features → AreDone features old → AreDone features new

-- the types of a group, shifted
abbrev pub shifted_types : ℕ → ℕ → List (SubType ℕ) → List (SubType ℕ)
shifted_types start by types = map (sub_map (shifted_index start by)) types

-- The clone of the group there, put after all types: what refers into the group refers into the clone, and so do supertypes.
abbrev pub cloned : Span → List (SubType ℕ) → List (SubType ℕ)
cloned span types = shifted_types span.start (length types - span.start) (take span.size (drop span.start types))

-- what decides on the draws of the next group
abbrev pub front_of : Types → Front
front_of t = record { sizes = t.sizes.items; asked = has_candidates t }

-- The drawn group is added, and these bytes are left.
pub record AddsGroupDrawn (drawn : List (SubType ℕ) × List ℕ) (old new : Types) (left : List ℕ) : Type 0 where
  pub added : made new ≡ made old ++ drawn.0
  pub front : front_of new ≡ front_then (front_of old) drawn.0
  pub at : left ≡ drawn.1

-- Of the groups that are drawn in all, these are drawn of what is left.
pub record AreLeft (offers : Offers) (max : ℕ) (drawn : List (List (SubType ℕ)) × List ℕ) (now : Types) (s : List ℕ) : Type 0 where
  pub fuel : ℕ
  pub rest : List (List (SubType ℕ))
  pub draws : groups_at offers max fuel (front_of now) s ≡ Some (rest, drawn.1)
  pub enough : max < total now.sizes.items + fuel
  pub parts : grouped now.sizes.items (made now) ++ map entry rest ≡ map entry drawn.0
