-- What is written of types is their shortest encoding.
use Rattle.std.proofs.Common.{ℕ, pos, ◌^◌, ◌<◌, ◌≤◌, Bool, true, false, if◌then◌else◌, List, [], ◌∷◌, ◌++◌, length, refl, ap, arith, length-append, inl, inr}
use Rattle.std.specs.List.{AllByRecursion}
use Rattle.wasm_spec.specs.Bytes.{IsU32, IsPair, IsMarked, IsList, IsShortest}
use Rattle.wasm_spec.specs.Grammar.{IsContent}
use Rattle.wasm_spec.specs.Shortest.{unsigned_encoding, signed_encoding, list_encoding}
use Rattle.wasm_spec.specs.SmallIndexes.{IsSmallIndex, IsSmallHeap, IsSmallValue, IsSmallStorage, IsSmallField, IsSmallComposite, IsSmallSub, IsSmallGroup}
use Rattle.wasm_spec.specs.Syntax.{TypeSection}
use Rattle.wasm_spec.specs.TypeEncodings.{heap_encoding, ref_encoding, val_encoding, storage_encoding, field_encoding, func_encoding, composite_encoding, sub_encoding_of, sub_encoding, group_encoding, rec_group_encoding, rec_groups_encoding}
use Rattle.wasm_spec.specs.TypeGrammar.{IsHeapIndex, IsHeapType, IsReference, IsValType, IsResultType, IsStorageType, IsMutability, IsFieldType, IsFuncType, IsCompositeType, IsSubType, IsRecGroup}
use Rattle.wasm_spec.specs.Types.{HeapType, Abstract, Concrete, ValType, I32, I64, F32, F64, V128, Ref, StorageType, I8, I16, Val, FieldType, FuncType, CompositeType, FuncComposite, StructComposite, ArrayComposite, ContComposite, RecGroup, Single, Group}
use Rattle.wasm_spec.proofs.NumberLaws.{shortest_unsigned, shortest_positive}
use Rattle.wasm_spec.proofs.ShortestForms.{marked, pair, list, HasSome, WritesShortest}
use Rattle.wasm_spec.proofs.UnsignedEncodings.{some_bytes}

-- ---- heap, reference and value types

index : (n : ℕ) → n < 2 ^ 32 → IsShortest IsHeapIndex (signed_encoding (pos n)) n
index n small =
    let s = shortest_positive 33 n small in
    record { encodes = s.encodes; shortest = λ other h. s.shortest other h }

heap : (type : HeapType ℕ) → IsSmallHeap type → IsShortest IsHeapType (heap_encoding type) type
unfolding heap_encoding
heap (Abstract h) small = record { encodes = refl; shortest = λ other e. omega (arith, ap length e) }
heap (Concrete n) small = let s = index n small in record { encodes = s.encodes; shortest = λ other h. s.shortest other h }

-- an encoding of a nullable reference to an abstract heap type has a byte
some_reference : (other : List ℕ) (h : HeapType ℕ) → IsReference true other h → 1 ≤ length other
some_reference other (Abstract a) (inl m) = omega (arith, ap length m.1)
some_reference other (Abstract a) (inr e) = omega (arith, ap length e)
some_reference other (Concrete n) (inl m) = omega (arith, ap length m.1)
some_reference other (Concrete n) (inr e) = absurd e

reference : (nullable : Bool) (type : HeapType ℕ) → IsSmallHeap type → IsShortest (IsReference nullable) (ref_encoding nullable type) type
unfolding ref_encoding heap_encoding
reference true (Abstract a) small = record { encodes = inr refl; shortest = λ other h. some_reference other (Abstract a) h }
reference true (Concrete n) small =
    let m = marked 0x63 IsHeapType (heap_encoding (Concrete n)) (Concrete n) (heap (Concrete n) small) in
    record { encodes = inl m.encodes; shortest = λ other h. elim h [ inl k ↦ m.shortest other k | inr e ↦ absurd e ] }
reference false type small = marked 0x64 IsHeapType (heap_encoding type) type (heap type small)

value : (type : ValType ℕ) → IsSmallValue type → IsShortest IsValType (val_encoding type) type
unfolding val_encoding
value I32 small = record { encodes = refl; shortest = λ other h. omega (arith, ap length h) }
value I64 small = record { encodes = refl; shortest = λ other h. omega (arith, ap length h) }
value F32 small = record { encodes = refl; shortest = λ other h. omega (arith, ap length h) }
value F64 small = record { encodes = refl; shortest = λ other h. omega (arith, ap length h) }
value V128 small = record { encodes = refl; shortest = λ other h. omega (arith, ap length h) }
value (Ref nullable type) small = let s = reference nullable type small in record { encodes = s.encodes; shortest = λ other h. s.shortest other h }

some_ref : (nullable : Bool) (type : HeapType ℕ) → 0 < length (ref_encoding nullable type)
unfolding ref_encoding heap_encoding
some_ref true (Abstract a) = omega arith
some_ref true (Concrete n) = omega arith
some_ref false type = omega arith

some_value : HasSome val_encoding
unfolding val_encoding
some_value I32 = omega arith
some_value I64 = omega arith
some_value F32 = omega arith
some_value F64 = omega arith
some_value V128 = omega arith
some_value (Ref nullable type) = some_ref nullable type

values : WritesShortest IsResultType (list_encoding val_encoding) (AllByRecursion IsSmallValue)
values types small short = list IsValType val_encoding IsSmallValue some_value (λ type h fits. value type h) types small short

-- ---- fields and composite types

storage : (type : StorageType ℕ) → IsSmallStorage type → IsShortest IsStorageType (storage_encoding type) type
unfolding storage_encoding
storage I8 small = record { encodes = refl; shortest = λ other h. omega (arith, ap length h) }
storage I16 small = record { encodes = refl; shortest = λ other h. omega (arith, ap length h) }
storage (Val type) small = let s = value type small in record { encodes = s.encodes; shortest = λ other h. s.shortest other h }

mutability : (mutable : Bool) → IsShortest IsMutability ((if mutable then 0x01 else 0x00) ∷ []) mutable
mutability false = record { encodes = refl; shortest = λ other h. omega (arith, ap length h) }
mutability true = record { encodes = refl; shortest = λ other h. omega (arith, ap length h) }

field : (type : FieldType ℕ) → IsSmallField type → IsShortest IsFieldType (field_encoding type) type
unfolding field_encoding
field type small =
    let both = pair IsStorageType IsMutability (storage_encoding type.element_type) ((if type.mutable then 0x01 else 0x00) ∷ []) type.element_type type.mutable
    (storage type.element_type small) (mutability type.mutable) in
    record { encodes = both.encodes; shortest = λ other h. both.shortest other h }

some_field : HasSome field_encoding
unfolding field_encoding
some_field type = omega (arith, length-append (storage_encoding type.element_type) ((if type.mutable then 0x01 else 0x00) ∷ []))

func : (type : FuncType ℕ) → AllByRecursion IsSmallValue type.params → AllByRecursion IsSmallValue type.results → length (func_encoding type) < 2 ^ 32
    → IsShortest IsFuncType (func_encoding type) type
unfolding func_encoding
func type params results short =
    let both = length-append (list_encoding val_encoding type.params) (list_encoding val_encoding type.results) in
    let s = marked 0x60 (IsPair IsResultType IsResultType) (list_encoding val_encoding type.params ++ list_encoding val_encoding type.results) (type.params, type.results)
    (pair IsResultType IsResultType (list_encoding val_encoding type.params) (list_encoding val_encoding type.results) type.params type.results
    (values type.params params (omega (arith, short, both))) (values type.results results (omega (arith, short, both)))) in
    record { encodes = s.encodes; shortest = λ other h. s.shortest other h }

composite : WritesShortest IsCompositeType composite_encoding IsSmallComposite
unfolding composite_encoding
composite (FuncComposite type) small short = let s = func type small.0 small.1 short in record { encodes = s.encodes; shortest = λ other h. s.shortest other h }
composite (StructComposite fields) small short =
    let s = marked 0x5f (IsList IsFieldType) (list_encoding field_encoding fields) fields
    (list IsFieldType field_encoding IsSmallField some_field (λ type h fits. field type h) fields small (omega (arith, short))) in
    record { encodes = s.encodes; shortest = λ other h. s.shortest other h }
composite (ArrayComposite type) small short =
    let s = marked 0x5e IsFieldType (field_encoding type) type (field type small) in
    record { encodes = s.encodes; shortest = λ other h. s.shortest other h }
composite (ContComposite n) small short =
    let s = marked 0x5d IsHeapIndex (signed_encoding (pos n)) n (index n small) in
    record { encodes = s.encodes; shortest = λ other h. s.shortest other h }

-- ---- sub types and groups

some_composite : HasSome composite_encoding
unfolding composite_encoding func_encoding
some_composite (FuncComposite type) = omega arith
some_composite (StructComposite fields) = omega arith
some_composite (ArrayComposite type) = omega arith
some_composite (ContComposite n) = omega arith

indexes : WritesShortest (IsList IsU32) (list_encoding unsigned_encoding) (AllByRecursion IsSmallIndex)
indexes ns small short = list IsU32 unsigned_encoding IsSmallIndex some_bytes (λ n h fits. shortest_unsigned 32 n h) ns small short

-- a sub type that is written out
written_out : (code : ℕ) (supertypes : List ℕ) (type : CompositeType ℕ) → AllByRecursion IsSmallIndex supertypes → IsSmallComposite type
    → length (list_encoding unsigned_encoding supertypes ++ composite_encoding type) < 2 ^ 32
    → IsShortest (IsMarked code (IsPair (IsList IsU32) IsCompositeType)) (code ∷ (list_encoding unsigned_encoding supertypes ++ composite_encoding type)) (supertypes, type)
written_out code supertypes type small parts short =
    let both = length-append (list_encoding unsigned_encoding supertypes) (composite_encoding type) in
    marked code (IsPair (IsList IsU32) IsCompositeType) (list_encoding unsigned_encoding supertypes ++ composite_encoding type) (supertypes, type)
    (pair (IsList IsU32) IsCompositeType (list_encoding unsigned_encoding supertypes) (composite_encoding type) supertypes type
    (indexes supertypes small (omega (arith, short, both))) (composite type parts (omega (arith, short, both))))

-- written out, it is longer than its composite type
longer : (code : ℕ) (supertypes : List ℕ) (type : CompositeType ℕ) (least : ℕ) → ((bytes : List ℕ) → IsCompositeType bytes type → least ≤ length bytes)
    → (bytes : List ℕ) → IsMarked code (IsPair (IsList IsU32) IsCompositeType) bytes (supertypes, type) → least ≤ length bytes
longer code supertypes type least law bytes h =
    let both = h.2 in
    omega (arith, ap length h.1, ap length both.2, length-append both.0 both.1, law both.1 both.4)

sub_parts : (is_final : Bool) (supertypes : List ℕ) (type : CompositeType ℕ) → AllByRecursion IsSmallIndex supertypes → IsSmallComposite type
    → length (sub_encoding_of is_final supertypes type) < 2 ^ 32
    → IsShortest IsSubType (sub_encoding_of is_final supertypes type) (record { is_final = is_final; supertypes = supertypes; composite_type = type })
unfolding sub_encoding_of
sub_parts true [] type small parts short =
    let s = composite type parts short in
    record {
      encodes = inr (refl, refl, s.encodes);
      shortest = λ other h. elim h [
        | inl m ↦ longer 0x4f [] type (length (composite_encoding type)) s.shortest other m
        | inr k ↦ s.shortest other k.2
      ];
    }
sub_parts true (index ∷ indexes) type small parts short =
    let s = written_out 0x4f (index ∷ indexes) type small parts (omega (arith, short)) in
    record { encodes = inl s.encodes; shortest = λ other h. elim h [ inl m ↦ s.shortest other m | inr k ↦ let none = k.1 in absurd cc ] }
sub_parts false supertypes type small parts short =
    let s = written_out 0x50 supertypes type small parts (omega (arith, short)) in
    record { encodes = inl s.encodes; shortest = λ other h. elim h [ inl m ↦ s.shortest other m | inr k ↦ let final = k.0 in absurd cc ] }

sub : WritesShortest IsSubType sub_encoding IsSmallSub
sub type small short =
    let s = sub_parts type.is_final type.supertypes type.composite_type small.0 small.1 short in
    record { encodes = s.encodes; shortest = λ other h. s.shortest other h }

some_sub_parts : (is_final : Bool) (supertypes : List ℕ) (type : CompositeType ℕ) → 0 < length (sub_encoding_of is_final supertypes type)
unfolding sub_encoding_of
some_sub_parts true [] type = some_composite type
some_sub_parts true (index ∷ indexes) type = omega arith
some_sub_parts false supertypes type = omega arith

some_sub : HasSome sub_encoding
some_sub type = some_sub_parts type.is_final type.supertypes type.composite_type

group : WritesShortest IsRecGroup rec_group_encoding IsSmallGroup
unfolding rec_group_encoding group_encoding
group (Single type) small short = let s = sub type small short in record { encodes = s.encodes; shortest = λ other h. s.shortest other h }
group (Group types) small short =
    let s = marked 0x4e (IsList IsSubType) (list_encoding sub_encoding types) types (list IsSubType sub_encoding IsSmallSub some_sub sub types small (omega (arith, short))) in
    record { encodes = s.encodes; shortest = λ other h. s.shortest other h }

some_group : HasSome rec_group_encoding
unfolding rec_group_encoding group_encoding
some_group (Single type) = some_sub type
some_group (Group types) = omega arith

-- ---- type sections

pub section : (compact : Bool) (groups : List (RecGroup ℕ)) → AllByRecursion IsSmallGroup groups → length (rec_groups_encoding groups) < 2 ^ 32
    → IsShortest (IsContent compact) (rec_groups_encoding groups) (TypeSection groups)
section compact groups small short =
    let s = list IsRecGroup rec_group_encoding IsSmallGroup some_group group groups small short in
    record { encodes = s.encodes; shortest = λ other h. s.shortest other h }
