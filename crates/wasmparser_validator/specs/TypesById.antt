-- The types of a module by their ids, and what its bodies are judged in over ids. An id stands for a defined type, and is the place of its sub type in a list.
use Rattle.std.specs.Prelude.{◌≡◌, ◌<◌, ℕ, true, false, List, [], get_or, length, map, slice_get, Option, Some, None}
use Rattle.std.specs.List.{AllByRecursion}
use Rattle.wasm_bodies.specs.BodyContext.{NamedType, ModuleItems}
use Rattle.wasm_spec.specs.Features.{Features, needs_type_canonicalization}
use Rattle.wasm_spec.specs.ReferenceMaps.{KeepsTypes}
use Rattle.wasm_spec.specs.Trees.{AreDistinct, DefType, type_at, unrolled}
use Rattle.wasm_spec.specs.TypeReferences.{global_map, ref_map, sub_map, sub_refs, table_map}
use Rattle.wasm_spec.specs.Types.{StructComposite, SubType}
use Rattle.wasm_validity.specs.Context.{Context, functions_in, globals_in}
use Rattle.wasmparser_type_relations.specs.Chains.{AreBelowEarlier, by_id}
use Rattle.wasmparser_type_relations.specs.Decision.{is_val_below}
use Rattle.wasmparser_types.specs.Index.{Index, Module, RecGroup, Id, number_of}

-- ---- ids of type indexes

-- an id, and a type index where there is none
abbrev pub id_or : ℕ → Option ℕ → Index
id_or index (Some id) = Id id
id_or index None = Module index

-- the id of a type index; an index that names no type is itself
abbrev pub index_at : List ℕ → ℕ → Index
index_at ids index = id_or index (slice_get ids index)

-- ---- what is known of types

-- what an id stands for
abbrev pub stands_for : List DefType → Index → DefType
stands_for interned index = type_at interned (number_of index)

-- the index is an id below a number
abbrev pub IsIdBelow : ℕ → Index → Type 0
IsIdBelow count (Module index) = ⊥
IsIdBelow count (RecGroup place) = ⊥
IsIdBelow count (Id id) = id < count

-- These are the ids of a module's types, which stand for interned ones, of which each has a sub type that refers to others by ids.
pub record AreKnown (features : Features) (types : List DefType) (ids : List ℕ) (interned : List DefType) (sub_types : List (SubType Index)) : Type 0 where
  pub stand : types ≡ map (type_at interned) ids
  pub within : AllByRecursion (λ id. id < length interned) ids
  pub count : length sub_types ≡ length interned
  pub unrolls : (id : ℕ) (type : SubType Index) → slice_get sub_types id ≡ Some type → unrolled (type_at interned id) ≡ Some (sub_map (stands_for interned) type)
  pub refer : (id : ℕ) (type : SubType Index) → slice_get sub_types id ≡ Some type → AllByRecursion (IsIdBelow (length interned)) (sub_refs type)
  pub earlier : AreBelowEarlier (slice_get sub_types)
  pub distinct : needs_type_canonicalization features ≡ true → AreDistinct interned

-- These are a module's types as they are written: each type index unrolls to what is written, and refers to types of the module. Where types aren't
-- canonicalized, no type refers to another.
pub record AreWritten (features : Features) (types : List DefType) (written : List (SubType ℕ)) : Type 0 where
  pub count : length types ≡ length written
  pub unrolls : KeepsTypes (type_at types) (slice_get written) unrolled
  pub refer : (index : ℕ) (type : SubType ℕ) → slice_get written index ≡ Some type → AllByRecursion (λ other. other < length types) (sub_refs type)
  pub plain : needs_type_canonicalization features ≡ false → (index : ℕ) (type : SubType ℕ) → slice_get written index ≡ Some type → sub_refs type ≡ []

-- ---- what bodies are judged in

-- (each id that is known has a sub type, so this one stands for none)
abbrev pub no_sub_type : SubType Index
no_sub_type = record { is_final = true; supertypes = []; composite_type = StructComposite [] }

abbrev pub named_by_id : List (SubType Index) → ℕ → NamedType Index
named_by_id sub_types id = record { reference = Id id; composite = (get_or sub_types id no_sub_type).composite_type }

-- the items that a body may name in the context of a whole module, over ids
abbrev pub items_by_ids : List ℕ → List (SubType Index) → Context → ModuleItems Index
items_by_ids ids sub_types cx = record {
  types = map (named_by_id sub_types) ids;
  functions = functions_in cx;
  tables = map (table_map (index_at ids)) cx.tables;
  memories = cx.memories;
  globals = map (global_map (index_at ids)) (globals_in cx);
  tags = cx.tags;
  elements = map (ref_map (index_at ids)) cx.elements;
  data_count = cx.data_count;
  declared = cx.declared;
  is_below = is_val_below (by_id (slice_get sub_types));
}
