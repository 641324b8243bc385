-- Supertypes of a type's own kind, in a group in canonical form. They are asked for before the group is interned, because subtyping of ids takes all links to
-- lead to types of the same kind.
use Rattle.std.specs.Prelude.{List, None, slice_get}
use Rattle.std.specs.List.{AllByRecursion}
use Rattle.wasm_spec.specs.Subtyping.{IsOfKind, SubTypes, abstract_of}
use Rattle.wasm_spec.specs.Types.{SubType}
use Rattle.wasmparser_type_list.specs.TypeTables.{TypeTables, sub_types}
use Rattle.wasmparser_types.specs.Index.{Index, Module, RecGroup, Id}

-- the sub types that indexes in a group in canonical form stand for: ids for earlier types, and places for the group's own
abbrev pub earlier_or_own : TypeTables → List (SubType Index) → SubTypes Index
earlier_or_own tables group (Module n) = None
earlier_or_own tables group (RecGroup place) = slice_get group place
earlier_or_own tables group (Id n) = slice_get (sub_types tables) n

-- all supertypes of a type are of its kind
abbrev pub HasSupertypesOfKind : SubTypes Index → SubType Index → Type 0
HasSupertypesOfKind sub_at type = AllByRecursion (λ supertype. IsOfKind sub_at supertype (abstract_of type.composite_type)) type.supertypes

abbrev pub HaveSupertypesOfKind : SubTypes Index → List (SubType Index) → Type 0
HaveSupertypesOfKind sub_at types = AllByRecursion (HasSupertypesOfKind sub_at) types
