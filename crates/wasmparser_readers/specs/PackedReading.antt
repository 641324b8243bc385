-- Reading types whose indexes are packed. A type index that is too large to be packed is read as a place in a recursive group, which no
-- bytes give. These functions are means of proof: each reads what the grammar reads, with its indexes packed (`proofs/PackedLaws`).
use Rattle.std.specs.Prelude.{ℕ, [], Bool, true, false, Some, nat_lt, if◌then◌else◌}
use Rattle.std.specs.Option.{option_map}
use Rattle.wasm_core_read.specs.Reading.{◌>>=◌, ReadingOf, unsigned_at, seen_at, pair_at, announced_at, after_code, bare_code, no_code}
use Rattle.wasm_core_read.specs.TypeReading.{look_up, val_type_codes, list_at, heap_type_at, heap_index_at, mutability_at}
use Rattle.wasm_spec.specs.TypeReferences.{heap_map, val_map}
use Rattle.wasm_spec.specs.Types.{HeapType, ValType, Ref, RefType, StorageType, I8, I16, Val, FieldType, FuncType, CompositeType, FuncComposite, StructComposite, ArrayComposite, ContComposite, SubType, RecGroup, Single, Group}
use Rattle.wasmparser_types.specs.Index.{Index, packable}
use Rattle.wasmparser_types.specs.Index as indexes
use Rattle.wasmparser_types.specs.ValTypes.{reference_type}

-- the index of a type in the module, packed where it can be
abbrev pub packed_index : ℕ → Index
packed_index n = if nat_lt n packable then indexes.Module n else indexes.RecGroup 0

-- a heap type, whose index isn't packed
unfoldable pub module_heap_at : ReadingOf (HeapType Index)
module_heap_at = seen_at (heap_map indexes.Module) heap_type_at

-- a reference after the byte that says whether it may be null
unfoldable pub packed_ref_at : Bool → ReadingOf (RefType Index)
packed_ref_at nullable = seen_at (λ heap. record { nullable = nullable; heap_type = heap_map packed_index heap }) heap_type_at

abbrev pub reference_to : RefType Index → ValType Index
reference_to type = Ref type.nullable type.heap_type

-- a value type that is a byte
abbrev pub packed_short : ℕ → ReadingOf (ValType Index)
packed_short code rest = option_map (val_map packed_index) (look_up val_type_codes code) >>= λ type. Some (type, rest)

-- a value type after its first byte
abbrev pub packed_val_from : ℕ → ReadingOf (ValType Index)
packed_val_from = after_code 0x63 (seen_at reference_to (packed_ref_at true)) (after_code 0x64 (seen_at reference_to (packed_ref_at false)) packed_short)

unfoldable pub packed_val_at : ReadingOf (ValType Index)
packed_val_at = announced_at packed_val_from

-- a reference type after its first byte
abbrev pub packed_ref_from : ℕ → ReadingOf (RefType Index)
packed_ref_from code rest = packed_val_from code rest >>= λ type. reference_type type.0 >>= λ reference. Some (reference, type.1)

unfoldable pub packed_ref_type_at : ReadingOf (RefType Index)
packed_ref_type_at = announced_at packed_ref_from

abbrev pub packed_storage_from : ℕ → ReadingOf (StorageType Index)
packed_storage_from = bare_code 0x78 I8 (bare_code 0x77 I16 (λ code. seen_at (λ type. Val type) (packed_val_from code)))

unfoldable pub packed_storage_at : ReadingOf (StorageType Index)
packed_storage_at = announced_at packed_storage_from

unfoldable pub packed_field_at : ReadingOf (FieldType Index)
packed_field_at = seen_at (λ x. record { element_type = x.0; mutable = x.1 }) (pair_at packed_storage_at mutability_at)

unfoldable pub packed_signature_at : ReadingOf (FuncType Index)
packed_signature_at = seen_at (λ x. record { params = x.0; results = x.1 }) (pair_at (list_at packed_val_at) (list_at packed_val_at))

-- the index of a type
unfoldable pub packed_index_at : ReadingOf Index
packed_index_at = seen_at packed_index (unsigned_at 32)

unfoldable pub packed_heap_index_at : ReadingOf Index
packed_heap_index_at = seen_at packed_index heap_index_at

-- a composite type after its code
abbrev pub packed_composite_from : ℕ → ReadingOf (CompositeType Index)
packed_composite_from = after_code 0x60 (seen_at (λ type. FuncComposite type) packed_signature_at) (after_code 0x5f (seen_at (λ fields. StructComposite fields) (list_at packed_field_at))
    (after_code 0x5e (seen_at (λ field. ArrayComposite field) packed_field_at) (after_code 0x5d (seen_at (λ function. ContComposite function) packed_heap_index_at) no_code)))

unfoldable pub packed_composite_at : ReadingOf (CompositeType Index)
packed_composite_at = announced_at packed_composite_from

-- supertypes, and a composite type
unfoldable pub packed_below_at : Bool → ReadingOf (SubType Index)
packed_below_at final = seen_at (λ x. record { is_final = final; supertypes = x.0; composite_type = x.1 }) (pair_at (list_at packed_index_at) packed_composite_at)

abbrev pub final_type : CompositeType Index → SubType Index
final_type type = record { is_final = true; supertypes = []; composite_type = type }

-- a sub type after its first byte
abbrev pub packed_sub_from : ℕ → ReadingOf (SubType Index)
packed_sub_from = after_code 0x50 (packed_below_at false) (after_code 0x4f (packed_below_at true) (λ code. seen_at final_type (packed_composite_from code)))

unfoldable pub packed_sub_at : ReadingOf (SubType Index)
packed_sub_at = announced_at packed_sub_from

-- a recursive group after its first byte
abbrev pub packed_group_from : ℕ → ReadingOf (RecGroup Index)
packed_group_from = after_code 0x4e (seen_at (λ types. Group types) (list_at packed_sub_at)) (λ code. seen_at (λ type. Single type) (packed_sub_from code))

unfoldable pub packed_group_at : ReadingOf (RecGroup Index)
packed_group_at = announced_at packed_group_from
