-- What reads packed is what the grammar reads, with its indexes packed.
use Rattle.std.proofs.Common.{◌≡◌, ℕ, Bool, true, false, List, Option, Some, None, map, refl}
use Rattle.std.specs.Option.{option_map}
use Rattle.wasm_core_read.specs.Reading.{◌>>=◌, unsigned_at, seen_at}
use Rattle.wasm_core_read.specs.TypeReading.{look_up, val_type_codes, short_type, val_type_from, val_type_at, ref_type_from, ref_type_at, reference_of, storage_type_at, mutability_at, field_type_at, signature_at, heap_type_at, heap_index_at, composite_from, composite_type_at, below_at, sub_from, sub_type_at, rec_group_at, list_at}
use Rattle.wasm_spec.specs.TypeReferences.{heap_map, ref_map, val_map, storage_map, field_map, func_map, composite_map, sub_map, group_map}
use Rattle.wasm_spec.specs.Types.{HeapType, ValType, I32, I64, F32, F64, V128, Ref, RefType, I8, I16, Val}
use Rattle.wasmparser_types.specs.Index.{Index}
use Rattle.wasmparser_types.specs.ValTypes.{reference_type}
use Rattle.wasmparser_readers.specs.PackedReading.{packed_index, packed_ref_at, reference_to, packed_short, packed_val_from, packed_val_at, packed_ref_from, packed_ref_type_at, packed_storage_at, packed_field_at, packed_signature_at, packed_index_at, packed_heap_index_at, packed_composite_from, packed_composite_at, packed_below_at, packed_sub_from, packed_sub_at, packed_group_at, final_type}
use Rattle.wasm_core_read.specs.TypeReading as grammar
use Rattle.wasmparser_readers.proofs.MappedReading.{Mapped, MappedFrom, given, both, by_code, by_bare, by_none, by_first, by_view, by_pair, by_list}

-- ---- value and reference types

reference : (nullable : Bool) → Mapped (val_map packed_index) (seen_at (λ heap. Ref nullable heap) heap_type_at) (seen_at reference_to (packed_ref_at nullable))
unfolding packed_ref_at
reference nullable = λ bytes. by_read (heap_type_at bytes)
  where
    by_read : (read : Option (HeapType ℕ × List ℕ)) → ((read >>= λ heap. given {A = RefType Index} (record { nullable = nullable; heap_type = heap_map packed_index heap.0 }) heap.1) >>= λ type. given (reference_to type.0) type.1)
        ≡ ((read >>= λ heap. given (Ref nullable heap.0) heap.1) >>= λ type. given (val_map packed_index type.0) type.1)
    by_read None = refl
    by_read (Some heap) = refl

short : MappedFrom (val_map packed_index) short_type packed_short
short = λ code rest. by_found (look_up val_type_codes code) rest
  where
    by_found : (found : Option (ValType ℕ)) (rest : List ℕ) → (option_map (val_map packed_index) found >>= λ type. given type rest) ≡ ((found >>= λ type. given type rest) >>= λ type. given (val_map packed_index type.0) type.1)
    by_found None rest = refl
    by_found (Some type) rest = refl

pub val_from : MappedFrom (val_map packed_index) val_type_from packed_val_from
val_from = by_code _ 0x63 _ _ _ _ (reference true) (by_code _ 0x64 _ _ _ _ (reference false) short)

pub val_is : Mapped (val_map packed_index) val_type_at packed_val_at
unfolding val_type_at packed_val_at
val_is = by_first _ _ _ val_from

pub ref_from : MappedFrom (ref_map packed_index) ref_type_from packed_ref_from
ref_from = λ code rest. rw (val_from code rest) (by_read (val_type_from code rest))
  where
    by_type : (type : ValType ℕ) (rest : List ℕ) → (reference_type (val_map packed_index type) >>= λ r. given r rest) ≡ ((reference_of type >>= λ r. given r rest) >>= λ r. given (ref_map packed_index r.0) r.1)
    by_type I32 rest = refl
    by_type I64 rest = refl
    by_type F32 rest = refl
    by_type F64 rest = refl
    by_type V128 rest = refl
    by_type (Ref nullable heap) rest = refl

    by_read : (read : Option (ValType ℕ × List ℕ)) → ((read >>= λ type. given (val_map packed_index type.0) type.1) >>= λ type. reference_type type.0 >>= λ r. given r type.1)
        ≡ ((read >>= λ type. reference_of type.0 >>= λ r. given r type.1) >>= λ r. given (ref_map packed_index r.0) r.1)
    by_read None = refl
    by_read (Some type) = by_type type.0 type.1

pub ref_is : Mapped (ref_map packed_index) ref_type_at packed_ref_type_at
unfolding ref_type_at packed_ref_type_at
ref_is = by_first _ _ _ ref_from

-- ---- fields

storage_is : Mapped (storage_map packed_index) storage_type_at packed_storage_at
unfolding storage_type_at packed_storage_at
storage_is = by_first _ _ _ (by_bare _ 0x78 I8 _ _ (by_bare _ 0x77 I16 _ _ (λ code. by_view (val_map packed_index) (λ type. Val type) (λ type. Val type) (storage_map packed_index) (val_type_from code) (packed_val_from code) (val_from code) (λ type. refl))))

mutability_is : Mapped (λ mutable. mutable) mutability_at mutability_at
mutability_is = λ bytes. by_read (mutability_at bytes)
  where
    by_read : (read : Option (Bool × List ℕ)) → read ≡ (read >>= λ x. given x.0 x.1)
    by_read None = refl
    by_read (Some x) = refl

field_is : Mapped (field_map packed_index) field_type_at packed_field_at
unfolding field_type_at packed_field_at
field_is = by_view (both (storage_map packed_index) (λ mutable. mutable)) _ _ (field_map packed_index) _ _ (by_pair _ _ _ _ _ _ storage_is mutability_is) (λ x. refl)

-- ---- composite types

signature_is : Mapped (func_map packed_index) signature_at packed_signature_at
unfolding signature_at packed_signature_at
signature_is = by_view (both (map (val_map packed_index)) (map (val_map packed_index))) _ _ (func_map packed_index) _ _ (by_pair _ _ _ _ _ _ (by_list _ _ _ val_is) (by_list _ _ _ val_is)) (λ x. refl)

index_is : Mapped packed_index (unsigned_at 32) packed_index_at
unfolding packed_index_at
index_is = λ bytes. refl

heap_index_is : Mapped packed_index heap_index_at packed_heap_index_at
unfolding packed_heap_index_at
heap_index_is = λ bytes. refl

composite_is_from : MappedFrom (composite_map packed_index) composite_from packed_composite_from
composite_is_from =
    by_code _ 0x60 _ _ _ _ (by_view (func_map packed_index) _ _ (composite_map packed_index) _ _ signature_is (λ x. refl))
    (by_code _ 0x5f _ _ _ _ (by_view (map (field_map packed_index)) _ _ (composite_map packed_index) _ _ (by_list _ _ _ field_is) (λ x. refl))
    (by_code _ 0x5e _ _ _ _ (by_view (field_map packed_index) _ _ (composite_map packed_index) _ _ field_is (λ x. refl))
    (by_code _ 0x5d _ _ _ _ (by_view packed_index _ _ (composite_map packed_index) _ _ heap_index_is (λ x. refl)) (by_none (composite_map packed_index)))))

composite_is : Mapped (composite_map packed_index) composite_type_at packed_composite_at
unfolding composite_type_at packed_composite_at
composite_is = by_first _ _ _ composite_is_from

-- ---- sub types and groups

below_is : (final : Bool) → Mapped (sub_map packed_index) (below_at final) (packed_below_at final)
unfolding packed_below_at
below_is final = by_view (both (map packed_index) (composite_map packed_index)) _ _ (sub_map packed_index) _ _ (by_pair _ _ _ _ _ _ (by_list _ _ _ index_is) composite_is) (λ x. refl)

sub_is_from : MappedFrom (sub_map packed_index) sub_from packed_sub_from
sub_is_from =
    by_code _ 0x50 _ _ _ _ (below_is false)
    (by_code _ 0x4f _ _ _ _ (below_is true)
    (λ code. by_view (composite_map packed_index) grammar.final_type final_type (sub_map packed_index) (composite_from code) (packed_composite_from code) (composite_is_from code) (λ x. refl)))

sub_is : Mapped (sub_map packed_index) sub_type_at packed_sub_at
unfolding sub_type_at packed_sub_at
sub_is = by_first _ _ _ sub_is_from

pub group_is : Mapped (group_map packed_index) rec_group_at packed_group_at
unfolding rec_group_at packed_group_at
group_is = by_first _ _ _
    (by_code _ 0x4e _ _ _ _ (by_view (map (sub_map packed_index)) _ _ (group_map packed_index) _ _ (by_list _ _ _ sub_is) (λ x. refl))
    (λ code. by_view (sub_map packed_index) _ _ (group_map packed_index) (sub_from code) (packed_sub_from code) (sub_is_from code) (λ x. refl)))
