-- Types that name others by type indexes, and by ids in place of these.
use Rattle.std.specs.Prelude.{ℕ, Bool, true, List, length, nat_lt, slice_get, Option, Some, None, option_map}
use Rattle.wasm_spec.specs.Trees.{DefType}
use Rattle.wasm_spec.specs.Types.{HeapType, Abstract, Concrete, RefType, ValType, Ref}
use Rattle.wasmparser_types.specs.Index.{Index, Module, Id, number_of}

-- ---- with type indexes

-- whether a type names none but these types
abbrev pub names_only_heap : List DefType → HeapType ℕ → Bool
names_only_heap types (Abstract heap) = true
names_only_heap types (Concrete index) = nat_lt index (length types)

abbrev pub names_only : List DefType → ValType ℕ → Bool
names_only types (Ref nullable heap) = names_only_heap types heap
names_only types _ = true

-- ---- with ids

-- a type with these ids, by type index, in place of the indexes in it, of whichever kind they are; none where one has no id
abbrev pub heap_by_ids : List ℕ → HeapType Index → Option (HeapType Index)
heap_by_ids ids (Abstract heap) = Some (Abstract heap)
heap_by_ids ids (Concrete index) = option_map (λ id. Concrete (Id id)) (slice_get ids (number_of index))

abbrev pub ref_by_ids : List ℕ → RefType Index → Option (RefType Index)
ref_by_ids ids type = option_map (λ heap. record { nullable = type.nullable; heap_type = heap }) (heap_by_ids ids type.heap_type)

abbrev pub val_by_ids : List ℕ → ValType Index → Option (ValType Index)
val_by_ids ids (Ref nullable heap) = option_map (λ heap. Ref nullable heap) (heap_by_ids ids heap)
val_by_ids ids type = Some type

-- ---- an id where there is one

-- an id, and a type index where there is none
abbrev pub id_or : ℕ → Option ℕ → Index
id_or index (Some id) = Id id
id_or index None = Module index

-- the id of the type with this index; an index without one is itself
abbrev pub index_at : List ℕ → ℕ → Index
index_at ids index = id_or index (slice_get ids index)
