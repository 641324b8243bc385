-- The resources of modules that are kept as lists.
use Rattle.std.specs.Prelude.{ℕ, Bool, true, false, ◌&&◌, ◌||◌, not, map, nat_eq, Option, Some, None, slice_get}
use Rattle.std.specs.Option.{unwrap_or}
use Rattle.wasm_bodies.specs.BodyContext.{ModuleItems, NamedType}
use Rattle.wasm_spec.specs.Subtyping.{abstract_of, bottom_of, is_abstract_below}
use Rattle.wasm_spec.specs.Types as spec
use Rattle.wasmparser_readers.specs.ItemTypes.{global_type, memory_type, table_type}
use Rattle.wasmparser_type_relations.specs.Tops.{top_of as abstract_top}
use Rattle.wasmparser_bodies.specs.Resources.{Resources}
use Rattle.wasmparser_validation_rows.specs.declared.listed_resources.ListedResources.{ListedResources}
use Rattle.wasmparser_validation_rows.specs.declared.listed_types.ListedTypes.{ListedTypes}
use Rattle.wasmparser_types.specs.Index.{Index, Id, number_of}
use Rattle.wasmparser_types.specs.SubTypes.{sub_type}

-- ---- types

-- what an id stands for
abbrev pub sub_of : ListedTypes → ℕ → spec.SubType Index
sub_of types id = sub_type (unwrap_or (slice_get types.known.items id) types.other)

abbrev pub composite_of : ListedTypes → ℕ → spec.CompositeType Index
composite_of types id = (sub_of types id).composite_type

abbrev pub named_type : ListedTypes → ℕ → NamedType Index
named_type types id = record { reference = Id id; composite = composite_of types id }

-- ---- subtyping

abbrev pub is_numbered : ℕ → Option Index → Bool
is_numbered number None = false
is_numbered number (Some index) = nat_eq (number_of index) number

-- the same type, or one that is declared right below the other
abbrev pub is_declared_below : ListedTypes → ℕ → ℕ → Bool
is_declared_below types a b = nat_eq a b || is_numbered b (slice_get (sub_of types a).supertypes 0)

abbrev pub is_heap_below : ListedTypes → spec.HeapType Index → spec.HeapType Index → Bool
is_heap_below types (spec.Abstract a) (spec.Abstract b) = is_abstract_below a b
is_heap_below types (spec.Abstract a) (spec.Concrete b) = is_abstract_below a (bottom_of (composite_of types (number_of b)))
is_heap_below types (spec.Concrete a) (spec.Abstract b) = is_abstract_below (abstract_of (composite_of types (number_of a))) b
is_heap_below types (spec.Concrete a) (spec.Concrete b) = is_declared_below types (number_of a) (number_of b)

abbrev pub is_val_below : ListedTypes → spec.ValType Index → spec.ValType Index → Bool
is_val_below types spec.I32 spec.I32 = true
is_val_below types spec.I64 spec.I64 = true
is_val_below types spec.F32 spec.F32 = true
is_val_below types spec.F64 spec.F64 = true
is_val_below types spec.V128 spec.V128 = true
is_val_below types (spec.Ref n a) (spec.Ref m b) = (m || not n) && is_heap_below types a b
is_val_below types _ _ = false

-- the greatest type above one
abbrev pub heap_top : ListedTypes → spec.HeapType Index → spec.HeapType Index
heap_top types (spec.Abstract heap) = spec.Abstract (abstract_top heap)
heap_top types (spec.Concrete index) = spec.Abstract (abstract_top (abstract_of (composite_of types (number_of index))))

-- ---- modules

abbrev pub items_of : ListedResources → ModuleItems Index
items_of m = record {
  types = map (named_type m.types) m.types.ids.items;
  functions = m.functions.items;
  tables = map table_type m.tables.items;
  memories = map memory_type m.memories.items;
  globals = map global_type m.globals.items;
  tags = m.tags.items;
  elements = m.elements;
  data_count = m.data_count;
  declared = λ function. unwrap_or (slice_get m.declared.items function) false;
  is_below = is_val_below m.types;
}

abbrev pub resources_of : ListedResources → Resources
resources_of m = record {
  items = items_of m;
  sub_type_of = λ index. Some (sub_of m.types (number_of index));
  top_of = heap_top m.types;
  imported_functions = m.imported_functions;
}
