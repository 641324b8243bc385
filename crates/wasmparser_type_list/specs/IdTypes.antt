-- What the ids of a list of types stand for. A list keeps recursive groups, one after the other as a type section has them, and an id stands for a
-- defined type (Core Specification 3.0, Validation, Conventions, "Defined Types" and "Rolling and Unrolling"). Types of groups that were interned without
-- canonicalization are none of the standard's: their trees are marked, so that each definition is a type of its own.
use Rattle.std.specs.Prelude.{◌≡◌, ℕ, suc, ◌<◌, Bool, true, if◌then◌else◌, List, [], ◌∷◌, ◌++◌, length, map, None, Some}
use Rattle.std.specs.List.{AllByRecursion}
use Rattle.std.specs.declared.ops.Range.{Range}
use Rattle.wasm_spec.specs.Syntax.{members}
use Rattle.wasm_spec.specs.Trees.{GroupTree, Rolled, Own, joined, listed, opened, DefType, tree_of, places_of, type_at}
use Rattle.wasm_spec.specs.TypeReferences.{subs_map, subs_refs}
use Rattle.wasm_spec.specs.Types.{SubType, RecGroup, Group}
use Rattle.wasmparser_types.specs.Index.{Index, module_index, number_of}
use Rattle.wasmparser_type_list.specs.TypeTables.{TypeTables, absolute, known_group, sub_types, types_in}

-- ---- the kept groups

-- a group as a type section has it, whose type indexes are the ids
abbrev pub group_of : TypeTables → Range ℕ → RecGroup ℕ
group_of tables range = Group (subs_map number_of (types_in tables range))

abbrev pub groups_of : TypeTables → List (RecGroup ℕ)
groups_of tables = map (group_of tables) tables.groups

-- a canonical group that comes after so many types, likewise
abbrev pub group_after : ℕ → List (SubType Index) → RecGroup ℕ
group_after count group = Group (subs_map number_of (subs_map (absolute count) group))

-- no kept type refers to a type index in a module
abbrev pub RefersToNoModule : TypeTables → Type 0
RefersToNoModule tables = AllByRecursion (λ index. module_index index ≡ None) (subs_refs (sub_types tables))

-- The group with this number is found by its key, as one is that was interned with canonicalization.
abbrev pub IsFoundByKey : TypeTables → ℕ → Type 0
IsFoundByKey tables number = (group : List (SubType Index)) × (known_group tables.known group ≡ Some number)

-- each group that counts as such a one is
abbrev pub AreFoundByKey : (ℕ → Bool) → TypeTables → Type 0
AreFoundByKey canonical tables = (number : ℕ) → number < length tables.groups → canonical number ≡ true → IsFoundByKey tables number

-- ---- what ids stand for

-- A group that was interned without canonicalization has types of its own, also where an equal group is there. So its tree is marked with the group's
-- number: it has one reference more than its types have. This one is left over when the tree is opened, so that the types are the same, but the tree
-- equals that of no other group.
abbrev pub marked : ℕ → GroupTree → GroupTree
marked number (Rolled shapes references) = Rolled shapes (joined (listed references ++ Own number ∷ []))

abbrev pub tree_as : Bool → ℕ → GroupTree → GroupTree
tree_as is_canonical number tree = if is_canonical then tree else marked number tree

-- these types, and those of the group that comes after them, which has this number
abbrev pub id_types_after : Bool → ℕ → List DefType → RecGroup ℕ → List DefType
id_types_after is_canonical number before group = before ++ places_of (tree_as is_canonical number (tree_of before group)) 0 (members group)

-- These types, and those of the groups that come after them, the first of which has this number. canonical: whether the group of a number counts as
-- one that was interned with canonicalization.
abbrev pub id_types_from : (ℕ → Bool) → ℕ → List DefType → List (RecGroup ℕ) → List DefType
id_types_from canonical number before [] = before
id_types_from canonical number before (group ∷ groups) = id_types_from canonical (suc number) (id_types_after (canonical number) number before group) groups

-- the types that the ids stand for, by id
abbrev pub id_types : (ℕ → Bool) → TypeTables → List DefType
id_types canonical tables = id_types_from canonical 0 [] (groups_of tables)

-- the type that an index stands for which is an id
abbrev pub type_of_index : (ℕ → Bool) → TypeTables → Index → DefType
type_of_index canonical tables index = type_at (id_types canonical tables) (number_of index)

-- these are the ids of a whole group: they stand for all types of one tree, in their order there
pub record IsWholeGroup (types : List DefType) (ids : List ℕ) : Type 0 where
  pub tree : GroupTree
  pub all : map (type_at types) ids ≡ places_of tree 0 (opened tree)
