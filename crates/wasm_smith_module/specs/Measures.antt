-- The numbers of a made module that limits bound, the depth of its types aside, which a rule bounds. They are what is measured with the entries of
-- a module, read after the last of them, where counts and the size of all types are greatest, and over plain lists: a type is its index. Core
-- Specification 3.0, appendix "Implementation Limitations".
use Rattle.std.specs.Prelude.{ℕ, ◌+◌, List, [], ◌∷◌, ◌++◌, length, map, Option, Some, None}
use Rattle.std.specs.List.{flat_map, sum_by}
use Rattle.wasm_spec.specs.Groups.{items_in}
use Rattle.wasm_spec.specs.Limits.{Limit, Types, Groups, Imports, Functions, Globals, Tags, Exports, Tables, Memories, ElementSegments, DataSegments, SegmentEntries, Params, Results, Fields, BodySize, TypeSize}
use Rattle.wasm_spec.specs.Syntax.{ElementSegment, Export, imported_by}
use Rattle.wasm_spec.specs.Types.{FuncType, SubType, ExternalType, FuncExternal, TableExternal, MemoryExternal, GlobalExternal, TagExternal}
use Rattle.wasm_validity.specs.Context.{names_of}
use Rattle.wasm_validity.specs.Rules.{count_of, import_names, name_measures}
use Rattle.wasm_smith_validity.specs.ValidGroups.{types_of}
use Rattle.wasm_smith_validity.specs.Made.{Made}
use Rattle.wasm_smith_validity.specs.Rules.{item_at}
use Rattle.wasm_smith_validity.specs.Spaces.{Spaces, spaces_of_types, functions_of, globals_of, func_type_at, with_items}

-- ---- index spaces

-- all imported items
abbrev pub imported_items : Made → List (ExternalType ℕ)
imported_items m = flat_map imported_by m.imports

-- with the module's own items
abbrev pub with_own : Spaces → Made → Spaces
with_own spaces m = record spaces {
  own_functions = m.funcs;
  tables = spaces.tables ++ map (λ table. table.type) m.tables;
  memories = spaces.memories ++ m.memories;
  tags = spaces.tags ++ m.tags;
  own_globals = map (λ global. global.type) m.globals;
  exports = m.exports;
  element_segments = length m.elems;
  data_segments = length m.data_segments;
}

-- the index spaces of the whole module
abbrev pub spaces_of : Made → Spaces
spaces_of m = with_own (with_items (spaces_of_types (types_of m.groups)) (imported_items m)) m

-- ---- sizes of types

-- how large a function type counts, which isn't there where the index names none
abbrev pub size_of_func : Option (FuncType ℕ) → ℕ
size_of_func None = 0
size_of_func (Some type) = 2 + (length type.params + length type.results)

-- how large the type of an item counts
abbrev pub size_of : List (SubType ℕ) → ExternalType ℕ → ℕ
size_of types (FuncExternal function) = size_of_func (func_type_at types function)
size_of types (TableExternal type) = 1
size_of types (MemoryExternal type) = 1
size_of types (GlobalExternal type) = 1
size_of types (TagExternal function) = size_of_func (func_type_at types function)

abbrev pub size_of_item : List (SubType ℕ) → Option (ExternalType ℕ) → ℕ
size_of_item types None = 0
size_of_item types (Some type) = size_of types type

abbrev pub size_of_export : Spaces → Export → ℕ
size_of_export spaces export = size_of_item spaces.types (item_at spaces export.kind export.index)

-- the size of the types of all imports and exports
abbrev pub type_size : Made → ℕ
type_size m = 1 + (sum_by (size_of (types_of m.groups)) (imported_items m) + sum_by (size_of_export (spaces_of m)) m.exports)

-- ---- numbers

-- how much there is of what counts all over the module
abbrev pub counts_of : Made → List (Limit × ℕ)
counts_of m =
    (Types, length (types_of m.groups))
    ∷ (Groups, length m.groups)
    ∷ (Imports, length m.imports)
    ∷ (Functions, length (functions_of (spaces_of m)))
    ∷ (Tables, length (spaces_of m).tables)
    ∷ (Memories, length (spaces_of m).memories)
    ∷ (Tags, length (spaces_of m).tags)
    ∷ (Globals, length (globals_of (spaces_of m)))
    ∷ (Exports, length m.exports)
    ∷ (ElementSegments, length m.elems)
    ∷ (DataSegments, length m.data_segments)
    ∷ (TypeSize, type_size m)
    ∷ []

-- the limits on what a type has
abbrev pub item_limits : List Limit
item_limits = Params ∷ Results ∷ Fields ∷ []

-- how many parameters, results and fields a type has
abbrev pub measures_of_type : SubType ℕ → List (Limit × ℕ)
measures_of_type type = map (λ limit. (limit, items_in type.composite_type limit)) item_limits

-- how many each type has
abbrev pub type_measures : List (SubType ℕ) → List (Limit × ℕ)
type_measures types = flat_map measures_of_type types

-- how many items each element segment has
abbrev pub segment_measures : List ElementSegment → List (Limit × ℕ)
segment_measures segments = map (λ segment. (SegmentEntries, count_of segment.items)) segments

-- how large each name, each element segment and each body is
abbrev pub lengths_of : List (List ℕ) → Made → List (Limit × ℕ)
lengths_of bodies m =
    name_measures (flat_map import_names m.imports)
    ++ (name_measures (names_of m.exports)
    ++ (segment_measures m.elems
    ++ map (λ body. (BodySize, length body)) bodies))

-- how large each type is, too
abbrev pub sizes_of : List (List ℕ) → Made → List (Limit × ℕ)
sizes_of bodies m = type_measures (types_of m.groups) ++ lengths_of bodies m

-- all numbers of a module whose functions have these bodies
abbrev pub numbers_of : List (List ℕ) → Made → List (Limit × ℕ)
numbers_of bodies m = counts_of m ++ sizes_of bodies m
