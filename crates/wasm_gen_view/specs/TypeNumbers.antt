-- The types of a module by index, as their groups are numbered.
use Rattle.std.specs.Prelude.{◌≡◌, ◌-◌, ◌<◌, ℕ, suc, List, [], ◌∷◌, length, map, slice_get, Option, Some, None}
use Rattle.std.specs.List.{AllByRecursion}
use Rattle.wasm_spec.specs.Trees.{DefType, GroupTree, opened, roll}
use Rattle.wasm_spec.specs.TypeReferences.{subs_map, subs_refs}
use Rattle.wasm_spec.specs.Types as spec
use Rattle.wasm_gen_view.specs.Views.{AreFirst, IsWithin, tree_reference, type_in}
use Rattle.wasm_gen_view.specs.declared.types.TypePlace.{TypePlace}
use Rattle.wasm_gen_view.specs.declared.types.TypeReference.{TypeReference}
use Rattle.wasm_gen_view.specs.declared.types.TypeReference.TheVariants.{Own, Other}

-- A type index, where the types before it have these places: one of them. Behind them it is a type of its own group; outside of groups it is no type, and goes
-- past the groups, whose number is given then.
abbrev pub reference_to : Option ℕ → Option TypePlace → ℕ → TypeReference
reference_to outside (Some place) own = Other place
reference_to None None own = Own own
reference_to (Some count) None own = Other (record { group = count; place = 0 })

abbrev pub reference_by : Option ℕ → List TypePlace → ℕ → TypeReference
reference_by outside places index = reference_to outside (slice_get places index) (index - length places)

abbrev pub numbered_reference : List TypePlace → ℕ → TypeReference
numbered_reference places index = reference_by None places index

-- the places of a group of this number, from this one on, as many as there are items
abbrev pub places_from : {X : Type 0} → ℕ → ℕ → List X → List TypePlace
places_from number place [] = []
places_from number place (x ∷ xs) = record { group = number; place = place } ∷ places_from number (suc place) xs

-- Groups with these trees are numbered, and types have these places.
pub record AreNumbersOf (all : List DefType) (trees : List GroupTree) (numbered : List (List (spec.SubType TypeReference))) (places : List TypePlace) : Type 0 where
  pub first : AreFirst [] all trees
  pub distinct : (i j : ℕ) (tree : GroupTree) → slice_get trees i ≡ Some tree → slice_get trees j ≡ Some tree → i ≡ j
  pub rolled : AllByRecursion (λ tree. roll (opened tree) ≡ tree) trees
  pub groups : map (subs_map (tree_reference trees)) numbered ≡ map opened trees
  pub within : AllByRecursion (λ group. AllByRecursion (IsWithin (length trees)) (subs_refs group)) numbered
  pub types : map (type_in trees) places ≡ all
  pub inside : AllByRecursion (λ (place : TypePlace). place.group < length trees) places
