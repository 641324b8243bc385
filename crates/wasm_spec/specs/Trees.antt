-- Defined types: what type indexes stand for. Two of them are one type exactly where they are equal, which is a matter of structure and
-- not of names. Core Specification 3.0, Validation, Conventions, "Defined Types" and "Rolling and Unrolling", and Matching, "Defined Types".
use Rattle.std.specs.Prelude.{◌≡◌, ⊤, ℕ, suc, ◌+◌, ◌-◌, ◌<◌, List, [], ◌∷◌, ◌++◌, length, slice_get, Option, Some, None, option_map}
use Rattle.std.specs.List.{AllByRecursion}
use Rattle.std.specs.Option.{unwrap_or}
use Rattle.wasm_spec.specs.Syntax.{members}
use Rattle.wasm_spec.specs.TypeReferences.{sub_map, subs_map, subs_refs, subs_fill, group_refs}
use Rattle.wasm_spec.specs.Types.{SubType, RecGroup}

-- ---- trees

-- A group tree is a recursive group that is rolled up: sub types whose references are places in the group, or places in other group trees.
-- It is kept as the sub types without their references and, beside them, the references in the order of writing: `roll` makes it of the
-- sub types that are meant, and `opened` gives these back. Types of a module have no other trees.
mutual
  pub data GroupTree : Type 0 where
    Rolled : List (SubType ⊤) → TreeReferences → GroupTree

  pub data TreeReference : Type 0 where
    -- a type of the group itself, by its place: what the standard writes `rec.i`
    Own : ℕ → TreeReference
    -- a type of another group, by its place there
    Other : GroupTree → ℕ → TreeReference

  pub data TreeReferences : Type 0 where
    NoMore : TreeReferences
    Then : TreeReference → TreeReferences → TreeReferences

abbrev pub joined : List TreeReference → TreeReferences
joined [] = NoMore
joined (r ∷ rs) = Then r (joined rs)

abbrev pub listed : TreeReferences → List TreeReference
listed NoMore = []
listed (Then r rs) = r ∷ listed rs

abbrev pub roll : List (SubType TreeReference) → GroupTree
roll types = Rolled (subs_map (λ _. tt) types) (joined (subs_refs types))

abbrev pub opened : GroupTree → List (SubType TreeReference)
opened (Rolled shapes rs) = (subs_fill (Own 0) shapes (listed rs)).0

-- ---- defined types

-- a group tree, and a place in it
pub record DefType : Type 0 where
  pub tree : GroupTree
  pub place : ℕ

-- the type that a reference inside of a tree stands for
abbrev pub seen_from : GroupTree → TreeReference → DefType
seen_from tree (Own place) = record { tree = tree; place = place }
seen_from tree (Other other place) = record { tree = other; place = place }

-- the sub type of a defined type, its references being defined types; none where the tree has no such place
abbrev pub unrolled : DefType → Option (SubType DefType)
unrolled type = option_map (sub_map (seen_from type.tree)) (slice_get (opened type.tree) type.place)

-- ---- type sections

-- What a type index stands for inside of a group: one of the types before the group, or where it is none of them its own type at a place.
abbrev pub reference_to : Option DefType → ℕ → TreeReference
reference_to (Some type) place = Other type.tree type.place
reference_to None place = Own place

abbrev pub reference_of : List DefType → ℕ → TreeReference
reference_of before index = reference_to (slice_get before index) (index - length before)

-- The tree of a group that comes after these types. One type has one tree, whether it stands alone or is written as a group.
abbrev pub tree_of : List DefType → RecGroup ℕ → GroupTree
tree_of before group = roll (subs_map (reference_of before) (members group))

-- the places of a tree from this one on, as many as there are items
abbrev pub places_of : {X : Type 0} → GroupTree → ℕ → List X → List DefType
places_of tree place [] = []
places_of tree place (x ∷ xs) = record { tree = tree; place = place } ∷ places_of tree (suc place) xs

-- the types of a group that comes after these types
abbrev pub types_of_group : List DefType → RecGroup ℕ → List DefType
types_of_group before group = places_of (tree_of before group) 0 (members group)

abbrev pub types_after : List DefType → RecGroup ℕ → List DefType
types_after before group = before ++ types_of_group before group

-- these types, and those of the groups that come after them
abbrev pub types_from : List DefType → List (RecGroup ℕ) → List DefType
types_from before [] = before
types_from before (group ∷ groups) = types_from (types_after before group) groups

-- the types of a type section, by type index
abbrev pub section_types : List (RecGroup ℕ) → List DefType
section_types groups = types_from [] groups

-- ---- type indexes

-- place 0 of the empty group: no type, because that group has none
abbrev pub no_type : DefType
no_type = record { tree = Rolled [] NoMore; place = 0 }

-- the type of an index, and past the end `no_type`
abbrev pub type_at : List DefType → ℕ → DefType
type_at types index = unwrap_or (slice_get types index) no_type

-- the type indexes that a group refers to are below this
abbrev pub RefersBelow : ℕ → RecGroup ℕ → Type 0
RefersBelow n group = AllByRecursion (λ index. index < n) (group_refs group)

-- Each group of a section refers to types before it or to its own. Before the first there is this number of types.
abbrev pub AreInRange : ℕ → List (RecGroup ℕ) → Type 0
AreInRange before [] = ⊤
AreInRange before (group ∷ groups) = RefersBelow (before + length (members group)) group × AreInRange (before + length (members group)) groups

-- no type has two indexes
abbrev pub AreDistinct : List DefType → Type 0
AreDistinct types = (i j : ℕ) (type : DefType) → slice_get types i ≡ Some type → slice_get types j ≡ Some type → i ≡ j
