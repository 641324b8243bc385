-- Views of index spaces: types are named by the number of their group, over distinct groups in the order of their first types, and their place there. Groups
-- are one where they are equal once rolled up (Core Specification 3.0, Validation, Conventions, "Rolling and Unrolling"), so views don't depend on type indexes.
use Rattle.std.specs.Prelude.{◌≡◌, ◌⊎◌, ⊤, ℕ, ◌<◌, List, [], ◌∷◌, ◌++◌, false, length, map, slice_get, Option, Some, None, option_map}
use Rattle.std.specs.List.{AllByRecursion, flat_map}
use Rattle.std.specs.Option.{unwrap_or}
use Rattle.std.specs.String.{string_bytes}
use Rattle.wasm_spec.specs.Syntax.{Export as WrittenExport}
use Rattle.wasm_spec.specs.Trees.{DefType, GroupTree, TreeReference, opened, no_type, type_at}
use Rattle.wasm_spec.specs.Trees as trees
use Rattle.wasm_spec.specs.TypeReferences.{external_map, external_refs, global_map, global_refs, ref_map, ref_refs, subs_map, subs_refs, table_map, table_refs}
use Rattle.wasm_spec.specs.Types as spec
use Rattle.wasm_validity.specs.IndexSpaces.{Spaces}
use Rattle.wasm_gen_view.specs.Types.{ref_type, sub_type, val_type}
use Rattle.wasm_gen_view.specs.declared.types.TypePlace.{TypePlace}
use Rattle.wasm_gen_view.specs.declared.types.TypeReference.{TypeReference}
use Rattle.wasm_gen_view.specs.declared.types.TypeReference.TheVariants.{Own, Other}
use Rattle.wasm_gen_view.specs.declared.view.Export.{Export}
use Rattle.wasm_gen_view.specs.declared.view.GlobalType.{GlobalType}
use Rattle.wasm_gen_view.specs.declared.view.Item.{Item}
use Rattle.wasm_gen_view.specs.declared.view.Item.TheVariants.{Function, Table, Memory, Global, Tag}
use Rattle.wasm_gen_view.specs.declared.view.MemoryType.{MemoryType}
use Rattle.wasm_gen_view.specs.declared.view.TableType.{TableType}
use Rattle.wasm_gen_view.specs.declared.view.View.{View}

-- ---- items of a view as those of the specification

abbrev pub table_type : TableType → spec.TableType TypeReference
table_type type = record {
  element_type = ref_type type.element_type;
  limits = record { minimum = type.minimum; maximum = type.maximum; shared = false; is_64 = type.table64; page_size_log2 = None };
}

abbrev pub memory_type : MemoryType → spec.MemoryType
memory_type type = record {
  minimum = type.minimum;
  maximum = type.maximum;
  shared = type.shared;
  is_64 = type.memory64;
  page_size_log2 = type.page_size_log2;
}

abbrev pub global_type : GlobalType → spec.GlobalType TypeReference
global_type type = record { value_type = val_type type.value_type; mutable = type.mutable }

abbrev pub item_type : Item → spec.ExternalType TypeReference
item_type (Function place) = spec.FuncExternal (Other place)
item_type (Table type) = spec.TableExternal (table_type type)
item_type (Memory type) = spec.MemoryExternal (memory_type type)
item_type (Global type) = spec.GlobalExternal (global_type type)
item_type (Tag place) = spec.TagExternal (Other place)

-- ---- groups and their numbers

-- The trees of some types without repetition, in the order of their first types, after the trees that came before.
abbrev pub AreFirst : List GroupTree → List DefType → List GroupTree → Type 0
AreFirst before [] all = all ≡ before
AreFirst before (type ∷ types) all =
    ((number : ℕ) × (slice_get before number ≡ Some type.tree) × AreFirst before types all)
    ⊎ (((number : ℕ) → slice_get before number ≡ Some type.tree → ⊥) × AreFirst (before ++ type.tree ∷ []) types all)

-- the tree of a number; past the last one without types
abbrev pub tree_at : List GroupTree → ℕ → GroupTree
tree_at groups number = unwrap_or (slice_get groups number) no_type.tree

-- the type at a place
abbrev pub type_in : List GroupTree → TypePlace → DefType
type_in groups place = record { tree = tree_at groups place.group; place = place.place }

-- the meaning of a reference inside of a group
abbrev pub tree_reference : List GroupTree → TypeReference → TreeReference
tree_reference groups (Own place) = trees.Own place
tree_reference groups (Other place) = trees.Other (tree_at groups place.group) place.place

-- the type that a reference outside of groups stands for
abbrev pub type_of : List GroupTree → TypeReference → DefType
type_of groups (Own place) = no_type
type_of groups (Other place) = type_in groups place

-- ---- exports

-- a name, and the type of the item that is exported by it
pub record Named (R : Type 0) : Type 0 where
  pub name : List ℕ
  pub item : spec.ExternalType R

-- the item of a kind with an index, if there is one
abbrev pub item_in : Spaces → spec.ExternalKind → ℕ → Option (spec.ExternalType ℕ)
item_in s spec.FuncKind index = option_map (λ x. spec.FuncExternal x) (slice_get s.functions index)
item_in s spec.TableKind index = option_map (λ x. spec.TableExternal x) (slice_get s.tables index)
item_in s spec.MemoryKind index = option_map (λ x. spec.MemoryExternal x) (slice_get s.memories index)
item_in s spec.GlobalKind index = option_map (λ x. spec.GlobalExternal x) (slice_get s.globals index)
item_in s spec.TagKind index = option_map (λ x. spec.TagExternal x) (slice_get s.tags index)

-- an item that is there, by this name, before others
abbrev pub with_item : {R : Type 0} → List ℕ → Option (spec.ExternalType R) → List (Named R) → List (Named R)
with_item name None others = others
with_item name (Some item) others = record { name = name; item = item } ∷ others

-- the exports of a module whose items are there, as all of a valid module are, with the types of their items
abbrev pub exports_of : Spaces → List WrittenExport → List (Named DefType)
exports_of s [] = []
exports_of s (export ∷ exports) = with_item export.name (option_map (external_map (type_at s.types)) (item_in s export.kind export.index)) (exports_of s exports)

-- an export of a view, likewise
abbrev pub export_in : List GroupTree → Export → Named DefType
export_in groups export = record { name = string_bytes export.name; item = external_map (type_of groups) (item_type export.item) }

-- ---- views

-- a reference in a group goes to one of so many groups, or to its own
abbrev pub IsWithin : ℕ → TypeReference → Type 0
IsWithin count (Own place) = ⊤
IsWithin count (Other place) = place.group < count

-- a reference outside of groups goes to one of so many
abbrev pub IsOutside : ℕ → TypeReference → Type 0
IsOutside count (Own place) = ⊥
IsOutside count (Other place) = place.group < count

-- all references of a view go to its groups
pub record AreNumbered (count : ℕ) (v : View) : Type 0 where
  pub groups : AllByRecursion (λ group. AllByRecursion (IsWithin count) (subs_refs (map sub_type group.items))) v.groups.items
  pub types : AllByRecursion (λ place. place.group < count) v.types.items
  pub functions : AllByRecursion (λ place. place.group < count) v.functions.items
  pub tables : AllByRecursion (IsOutside count) (flat_map (λ type. table_refs (table_type type)) v.tables.items)
  pub globals : AllByRecursion (IsOutside count) (flat_map (λ type. global_refs (global_type type)) v.globals.items)
  pub tags : AllByRecursion (λ place. place.group < count) v.tags.items
  pub elements : AllByRecursion (IsOutside count) (flat_map (λ type. ref_refs (ref_type type)) v.elements.items)
  pub exports : AllByRecursion (IsOutside count) (flat_map (λ export. external_refs (item_type export.item)) v.exports.items)

-- each type index of an item names a type
pub record HasTypes (s : Spaces) : Type 0 where
  pub functions : AllByRecursion (λ index. index < length s.types) s.functions
  pub tables : AllByRecursion (λ index. index < length s.types) (flat_map table_refs s.tables)
  pub globals : AllByRecursion (λ index. index < length s.types) (flat_map global_refs s.globals)
  pub tags : AllByRecursion (λ index. index < length s.types) s.tags
  pub elements : AllByRecursion (λ index. index < length s.types) (flat_map ref_refs s.elements)

-- It is the view of these index spaces: its groups are the distinct ones, and each of its items stands for that of the spaces.
pub record IsViewOf (s : Spaces) (v : View) : Type 0 where
  pub trees : List GroupTree
  pub first : AreFirst [] s.types trees
  pub groups : map (λ group. subs_map (tree_reference trees) (map sub_type group.items)) v.groups.items ≡ map opened trees
  pub types : map (type_in trees) v.types.items ≡ s.types
  pub functions : map (type_in trees) v.functions.items ≡ map (type_at s.types) s.functions
  pub tables : map (λ type. table_map (type_of trees) (table_type type)) v.tables.items ≡ map (table_map (type_at s.types)) s.tables
  pub memories : map memory_type v.memories.items ≡ s.memories
  pub globals : map (λ type. global_map (type_of trees) (global_type type)) v.globals.items ≡ map (global_map (type_at s.types)) s.globals
  pub tags : map (type_in trees) v.tags.items ≡ map (type_at s.types) s.tags
  pub elements : map (λ type. ref_map (type_of trees) (ref_type type)) v.elements.items ≡ map (ref_map (type_at s.types)) s.elements
  pub exports : map (export_in trees) v.exports.items ≡ exports_of s s.exports
  pub numbered : HasTypes s → AreNumbered (length trees) v
