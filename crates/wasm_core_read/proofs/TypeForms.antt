-- Types are read as their forms say.
use Rattle.std.proofs.Common.{◌≡◌, ◌≢◌, ℕ, ◌<◌, ◌≤◌, ℤ, pos, negsuc, ◌⊎◌, Bool, true, false, List, [], ◌∷◌, ◌++◌, Option, Some, None, refl, sym, ap, subst, inl, inr, arith}
use Rattle.std.proofs.lemmas.Bool.Decides.{eqb_tells}
use Rattle.std.proofs.lemmas.Int.{ints}
use Rattle.wasm_spec.specs.Bytes.{AreBytes, IsU32, IsSigned, IsPair, IsList}
use Rattle.wasm_spec.specs.TypeGrammar.{heap_code, sub_code, IsHeapIndex, IsHeapType, IsReference, IsRefType, IsValType, IsResultType, IsStorageType, IsMutability, IsFieldType, IsFuncType, IsCompositeType, IsSubType, IsRecGroup}
use Rattle.wasm_spec.specs.Types.{AbstractHeapType, HeapType, Abstract, Concrete, RefType, ValType, I32, I64, F32, F64, V128, Ref, StorageType, I8, I16, Val, FieldType, FuncType, CompositeType, FuncComposite, StructComposite, ArrayComposite, ContComposite, SubType, RecGroup, Single, Group}
use Rattle.wasm_spec.specs.Types as types
use Rattle.wasm_core_read.specs.Laws.{ReadsExactly}
use Rattle.wasm_core_read.specs.Reading.{◌>>=◌, unsigned_at, signed_at, seen_at, pair_at, after_code, bare_code, no_code}
use Rattle.wasm_core_read.specs.TypeReading.{list_at, look_up, heap_codes, index_of, heap_index_at, heap_with, heap_type_at, val_type_codes, short_type, val_type_from, val_type_at, reference_of, ref_type_from, ref_type_at, storage_type_at, mutability_at, field_type_at, signature_at, func_type_at, composite_from, composite_type_at, final_type, below_at, sub_from, sub_type_at, rec_group_at}
use Rattle.wasm_core_read.proofs.Forms.{bind_some, some_is, Found, reads_unsigned}
use Rattle.wasm_core_read.proofs.ListForms.{reads_list}
use Rattle.wasm_core_read.proofs.NumberForms.{reads_signed, signed_again}
use Rattle.wasm_core_read.proofs.WayForms.{Finds, FindsAfter, Announced, seen, reads_seen, reads_pair, none, bare, coded, announced, past_code, past_bare, announced_seen}

-- ---- tables of bytes

-- something holds of each entry
abbrev Each : {A : Type 0} → (ℕ → A → Type 0) → List (ℕ × A) → Type 0
Each P [] = Unit {0}
Each P ((code, x) ∷ others) = P code x × Each P others

looked_up : {A : Type 0} (P : ℕ → A → Type 0) (table : List (ℕ × A)) (b : ℕ) (x : A) → Each P table → look_up table b ≡ Some x → P b x
looked_up P [] b x each e = absurd cc
looked_up P ((code, y) ∷ others) b x each e =
    elim (eqb_tells b code) [
      | inl (t, same) ↦ subst (λ (n : ℕ). P n x) (sym same) (subst (λ z. P code z) (some_is y x (rw t at e)) each.0)
      | inr (t, other) ↦ looked_up P others b x each.1 (rw t at e)
    ]

missed : {A : Type 0} (table : List (ℕ × A)) (b : ℕ) → Each (λ code x. b ≢ code) table → look_up table b ≡ None
missed [] b each = refl
missed ((code, y) ∷ others) b each =
    elim (eqb_tells b code) [
      | inl (t, same) ↦ absurd (each.0 same)
      | inr (t, other) ↦ rw t (missed others b each.1)
    ]

-- ---- heap types

-- an index that a signed number is
is_index : (z : ℤ) (index : ℕ) → index_of z ≡ Some index → z ≡ pos index
is_index (pos n) index e = ap pos (some_is n index e)
is_index (negsuc n) index e = absurd cc

heap_index_found : Finds IsHeapIndex heap_index_at
unfolding heap_index_at
heap_index_found bytes v rest are e =
    let z = bind_some (signed_at 33 bytes) (λ z. index_of z.0 >>= λ index. Some (index, z.1)) (v, rest) e in
    let i = bind_some (index_of z.0.0) (λ index. Some (index, z.0.1)) (v, rest) z.2 in
    let f = (reads_signed 33).found bytes z.0.0 z.0.1 are z.1 in
    subst (λ (x : ℕ × List ℕ). Found IsHeapIndex bytes x.0 x.1) (some_is (i.0, z.0.1) (v, rest) i.2) (f.0, f.1, subst (λ (y : ℤ). IsSigned 33 f.0 y) (is_index z.0.0 i.0 i.1) f.2)

pub reads_heap_index : ReadsExactly IsHeapIndex heap_index_at
unfolding heap_index_at
reads_heap_index = record { found = heap_index_found; again = λ bytes v rest h. rw (signed_again 33 bytes (pos v) rest h) refl }

own_codes : Each (λ code heap. code ≡ heap_code heap) heap_codes
own_codes = (refl, (refl, (refl, (refl, (refl, (refl, (refl, (refl, (refl, (refl, (refl, (refl, (refl, (refl, tt))))))))))))))

own_heap : (heap : AbstractHeapType) → look_up heap_codes (heap_code heap) ≡ Some heap
own_heap types.Func = refl
own_heap types.Extern = refl
own_heap types.Any = refl
own_heap types.None = refl
own_heap types.NoExtern = refl
own_heap types.NoFunc = refl
own_heap types.Eq = refl
own_heap types.Struct = refl
own_heap types.Array = refl
own_heap types.I31 = refl
own_heap types.Exn = refl
own_heap types.NoExn = refl
own_heap types.Cont = refl
own_heap types.NoCont = refl

heap_found : (b : ℕ) (bs : List ℕ) (o : Option AbstractHeapType) (v : HeapType ℕ) (rest : List ℕ) → AreBytes (b ∷ bs) → look_up heap_codes b ≡ o → heap_with o (b ∷ bs) bs ≡ Some (v, rest) → Found IsHeapType (b ∷ bs) v rest
heap_found b bs (Some heap) v rest are l e =
    subst (λ x. Found IsHeapType (b ∷ bs) x.0 x.1) (some_is (Abstract heap, bs) (v, rest) e)
    (b ∷ [], refl, ap (λ (n : ℕ). n ∷ []) (looked_up (λ code x. code ≡ heap_code x) heap_codes b heap own_codes l))
heap_found b bs None v rest are l e = seen IsHeapType IsHeapIndex heap_index_at (λ index. Concrete index) heap_index_found (λ bytes index h. h) (b ∷ bs) v rest are e

heap_type_found : Finds IsHeapType heap_type_at
unfolding heap_type_at
heap_type_found [] v rest are e = absurd cc
heap_type_found (b ∷ bs) v rest are e = heap_found b bs (look_up heap_codes b) v rest are refl e

-- The first byte of an index is below 64, or from 128 on: it is no byte of an abstract heap type.
first_of_index : (b : ℕ) (bs : List ℕ) (index : ℕ) → IsHeapIndex (b ∷ bs) index → (b < 64) ⊎ (128 ≤ b)
first_of_index b [] index (inl h) = inl h.0
first_of_index b [] index (inr h) = absurd (omega (arith, ints, h.1, h.3))
first_of_index b (c ∷ cs) index h = inr h.0

no_heap : (b : ℕ) → (b < 64) ⊎ (128 ≤ b) → look_up heap_codes b ≡ None
no_heap b (inl low) = missed heap_codes b (omega (arith, low), (omega (arith, low), (omega (arith, low), (omega (arith, low), (omega (arith, low), (omega (arith, low), (omega (arith, low), (omega (arith, low), (omega (arith, low), (omega (arith, low), (omega (arith, low), (omega (arith, low), (omega (arith, low), (omega (arith, low), tt))))))))))))))
no_heap b (inr high) = missed heap_codes b (omega (arith, high), (omega (arith, high), (omega (arith, high), (omega (arith, high), (omega (arith, high), (omega (arith, high), (omega (arith, high), (omega (arith, high), (omega (arith, high), (omega (arith, high), (omega (arith, high), (omega (arith, high), (omega (arith, high), (omega (arith, high), tt))))))))))))))

index_again : (bytes : List ℕ) (index : ℕ) (rest : List ℕ) → IsHeapIndex bytes index → heap_type_at (bytes ++ rest) ≡ Some (Concrete index, rest)
unfolding heap_type_at
index_again [] index rest h = absurd h
index_again (b ∷ bs) index rest h = rw (no_heap b (first_of_index b bs index h), reads_heap_index.again (b ∷ bs) index rest h) refl

heap_type_again : (bytes : List ℕ) (v : HeapType ℕ) (rest : List ℕ) → IsHeapType bytes v → heap_type_at (bytes ++ rest) ≡ Some (v, rest)
unfolding heap_type_at
heap_type_again bytes (Abstract heap) rest h = rw (h, own_heap heap) refl
heap_type_again bytes (Concrete index) rest h = index_again bytes index rest h

pub reads_heap_type : ReadsExactly IsHeapType heap_type_at
reads_heap_type = record { found = heap_type_found; again = heap_type_again }

-- ---- value and reference types

val_codes : Each (λ code type. IsValType (code ∷ []) type) val_type_codes
val_codes = (refl, (refl, (refl, (refl, (refl, (inr refl, (inr refl, (inr refl, (inr refl, (inr refl, (inr refl, (inr refl, (inr refl, (inr refl, (inr refl, (inr refl, (inr refl, (inr refl, (inr refl, tt)))))))))))))))))))

short_found : FindsAfter (Announced IsValType) short_type
short_found code bytes v rest are e =
    let a = bind_some (look_up val_type_codes code) (λ x. Some (x, bytes)) (v, rest) e in
    subst (λ x. Found (Announced IsValType code) bytes x.0 x.1) (some_is (a.0, bytes) (v, rest) a.2) ([], refl, looked_up (λ c t. IsValType (c ∷ []) t) val_type_codes code a.0 val_codes a.1)

val_from_found : FindsAfter (Announced IsValType) val_type_from
val_from_found = coded (Announced IsValType) 0x63 (seen_at (λ heap. Ref true heap) heap_type_at) (after_code 0x64 (seen_at (λ heap. Ref false heap) heap_type_at) short_type)
    (seen (Announced IsValType 0x63) IsHeapType heap_type_at (λ heap. Ref true heap) heap_type_found (λ bytes heap h. inl (bytes, refl, h)))
    (coded (Announced IsValType) 0x64 (seen_at (λ heap. Ref false heap) heap_type_at) short_type
    (seen (Announced IsValType 0x64) IsHeapType heap_type_at (λ heap. Ref false heap) heap_type_found (λ bytes heap h. (bytes, refl, h)))
    short_found)

own_reference : (heap : AbstractHeapType) (rest : List ℕ) → val_type_at (heap_code heap ∷ rest) ≡ Some (Ref true (Abstract heap), rest)
unfolding val_type_at
own_reference types.Func rest = refl
own_reference types.Extern rest = refl
own_reference types.Any rest = refl
own_reference types.None rest = refl
own_reference types.NoExtern rest = refl
own_reference types.NoFunc rest = refl
own_reference types.Eq rest = refl
own_reference types.Struct rest = refl
own_reference types.Array rest = refl
own_reference types.I31 rest = refl
own_reference types.Exn rest = refl
own_reference types.NoExn rest = refl
own_reference types.Cont rest = refl
own_reference types.NoCont rest = refl

reference_again : (bytes : List ℕ) (nullable : Bool) (heap : HeapType ℕ) (rest : List ℕ) → IsReference nullable bytes heap → val_type_at (bytes ++ rest) ≡ Some (Ref nullable heap, rest)
unfolding val_type_at
reference_again bytes true heap rest (inl h) = rw (h.1, heap_type_again h.0 heap rest h.2) refl
reference_again bytes true (Abstract heap) rest (inr h) = rw h (own_reference heap rest)
reference_again bytes true (Concrete index) rest (inr h) = absurd h
reference_again bytes false heap rest h = rw (h.1, heap_type_again h.0 heap rest h.2) refl

val_type_again : (bytes : List ℕ) (type : ValType ℕ) (rest : List ℕ) → IsValType bytes type → val_type_at (bytes ++ rest) ≡ Some (type, rest)
unfolding val_type_at
val_type_again bytes I32 rest h = rw h refl
val_type_again bytes I64 rest h = rw h refl
val_type_again bytes F32 rest h = rw h refl
val_type_again bytes F64 rest h = rw h refl
val_type_again bytes V128 rest h = rw h refl
val_type_again bytes (Ref nullable heap) rest h = reference_again bytes nullable heap rest h

pub reads_val_type : ReadsExactly IsValType val_type_at
unfolding val_type_at
reads_val_type = record { found = announced IsValType val_type_from val_from_found; again = val_type_again }

is_reference : (type : ValType ℕ) (reference : RefType ℕ) (bytes : List ℕ) → reference_of type ≡ Some reference → IsValType bytes type → IsRefType bytes reference
is_reference (Ref nullable heap) reference bytes e h = subst (λ r. IsRefType bytes r) (some_is (record { nullable = nullable; heap_type = heap }) reference e) h
is_reference I32 reference bytes e h = absurd cc
is_reference I64 reference bytes e h = absurd cc
is_reference F32 reference bytes e h = absurd cc
is_reference F64 reference bytes e h = absurd cc
is_reference V128 reference bytes e h = absurd cc

pub ref_from_found : FindsAfter (Announced IsRefType) ref_type_from
ref_from_found code bytes v rest are e =
    let t = bind_some (val_type_from code bytes) (λ type. reference_of type.0 >>= λ reference. Some (reference, type.1)) (v, rest) e in
    let r = bind_some (reference_of t.0.0) (λ reference. Some (reference, t.0.1)) (v, rest) t.2 in
    let f = val_from_found code bytes t.0.0 t.0.1 are t.1 in
    subst (λ x. Found (Announced IsRefType code) bytes x.0 x.1) (some_is (r.0, t.0.1) (v, rest) r.2) (f.0, f.1, is_reference t.0.0 r.0 (code ∷ f.0) r.1 f.2)

of_val_type : (bytes : List ℕ) (nullable : Bool) (heap : HeapType ℕ) (rest : List ℕ) → val_type_at bytes ≡ Some (Ref nullable heap, rest) → ref_type_at bytes ≡ Some (record { nullable = nullable; heap_type = heap }, rest)
unfolding val_type_at ref_type_at
of_val_type [] nullable heap rest e = absurd cc
of_val_type (b ∷ bs) nullable heap rest e = rw e refl

pub reads_ref_type : ReadsExactly IsRefType ref_type_at
unfolding ref_type_at
reads_ref_type = record {
  found = announced IsRefType ref_type_from ref_from_found;
  again = λ bytes v rest h. of_val_type (bytes ++ rest) v.nullable v.heap_type rest (reference_again bytes v.nullable v.heap_type rest h);
}

-- ---- fields

packed_found : FindsAfter (Announced IsStorageType) (bare_code 0x78 I8 (bare_code 0x77 I16 (λ code. seen_at (λ type. Val type) (val_type_from code))))
packed_found = bare (Announced IsStorageType) 0x78 I8 (bare_code 0x77 I16 (λ code. seen_at (λ type. Val type) (val_type_from code))) refl
    (bare (Announced IsStorageType) 0x77 I16 (λ code. seen_at (λ type. Val type) (val_type_from code)) refl
    (λ code. seen (Announced IsStorageType code) (Announced IsValType code) (val_type_from code) (λ type. Val type) (val_from_found code) (λ bytes type h. h)))

value_again : (encoding : List ℕ) (type : ValType ℕ) (rest : List ℕ) → IsValType encoding type → storage_type_at (encoding ++ rest) ≡ Some (Val type, rest)
unfolding storage_type_at val_type_at
value_again encoding type rest h =
    past_bare 0x78 I8 (bare_code 0x77 I16 (λ code. seen_at (λ t. Val t) (val_type_from code))) (λ bytes. refl) (encoding ++ rest) (Val type, rest)
    (past_bare 0x77 I16 (λ code. seen_at (λ t. Val t) (val_type_from code)) (λ bytes. refl) (encoding ++ rest) (Val type, rest)
    (announced_seen (λ t. Val t) val_type_from (encoding ++ rest) type rest (val_type_again encoding type rest h)))

storage_again : (bytes : List ℕ) (type : StorageType ℕ) (rest : List ℕ) → IsStorageType bytes type → storage_type_at (bytes ++ rest) ≡ Some (type, rest)
unfolding storage_type_at
storage_again bytes I8 rest h = rw h refl
storage_again bytes I16 rest h = rw h refl
storage_again bytes (Val type) rest h = value_again bytes type rest h

pub reads_storage_type : ReadsExactly IsStorageType storage_type_at
unfolding storage_type_at
reads_storage_type = record { found = announced IsStorageType _ packed_found; again = storage_again }

mutability_again : (bytes : List ℕ) (v : Bool) (rest : List ℕ) → IsMutability bytes v → mutability_at (bytes ++ rest) ≡ Some (v, rest)
unfolding mutability_at
mutability_again bytes false rest h = rw h refl
mutability_again bytes true rest h = rw h refl

pub reads_mutability : ReadsExactly IsMutability mutability_at
unfolding mutability_at
reads_mutability = record {
  found = announced IsMutability _ (bare (Announced IsMutability) 0x00 false (bare_code 0x01 true no_code) refl (bare (Announced IsMutability) 0x01 true no_code refl (none (Announced IsMutability))));
  again = mutability_again;
}

pub reads_field_type : ReadsExactly IsFieldType field_type_at
unfolding field_type_at
reads_field_type =
    reads_seen (IsPair IsStorageType IsMutability) (pair_at storage_type_at mutability_at) (λ x. record { element_type = x.0; mutable = x.1 }) (λ field. (field.element_type, field.mutable)) (λ x. refl) (λ field. refl)
    (reads_pair IsStorageType storage_type_at IsMutability mutability_at reads_storage_type reads_mutability)

-- ---- function and composite types

abbrev IsSignature : List ℕ → FuncType ℕ → Type 0
IsSignature bytes type = IsPair IsResultType IsResultType bytes (type.params, type.results)

reads_result_type : ReadsExactly IsResultType (list_at val_type_at)
reads_result_type = reads_list IsValType val_type_at reads_val_type

reads_signature : ReadsExactly IsSignature signature_at
unfolding signature_at
reads_signature =
    reads_seen (IsPair IsResultType IsResultType) (pair_at (list_at val_type_at) (list_at val_type_at)) (λ x. record { params = x.0; results = x.1 }) (λ type. (type.params, type.results)) (λ x. refl) (λ type. refl)
    (reads_pair IsResultType (list_at val_type_at) IsResultType (list_at val_type_at) reads_result_type reads_result_type)

pub reads_func_type : ReadsExactly IsFuncType func_type_at
unfolding func_type_at
reads_func_type = record {
  found = announced IsFuncType (after_code 0x60 signature_at no_code) (coded (Announced IsFuncType) 0x60 signature_at no_code signature_found (none (Announced IsFuncType)));
  again = λ encoding v rest h. rw (h.1, reads_signature.again h.0 v rest h.2) refl;
}
  where
    signature_found : Finds (Announced IsFuncType 0x60) signature_at
    signature_found bytes v rest are e = let f = reads_signature.found bytes v rest are e in (f.0, f.1, (f.0, refl, f.2))

reads_fields : ReadsExactly (IsList IsFieldType) (list_at field_type_at)
reads_fields = reads_list IsFieldType field_type_at reads_field_type

composite_found : FindsAfter (Announced IsCompositeType) composite_from
composite_found = coded (Announced IsCompositeType) 0x60 (seen_at (λ type. FuncComposite type) signature_at) _
    (seen (Announced IsCompositeType 0x60) IsSignature signature_at (λ type. FuncComposite type) reads_signature.found (λ bytes type h. (bytes, refl, h)))
    (coded (Announced IsCompositeType) 0x5f (seen_at (λ fields. StructComposite fields) (list_at field_type_at)) _
    (seen (Announced IsCompositeType 0x5f) (IsList IsFieldType) (list_at field_type_at) (λ fields. StructComposite fields) reads_fields.found (λ bytes fields h. (bytes, refl, h)))
    (coded (Announced IsCompositeType) 0x5e (seen_at (λ field. ArrayComposite field) field_type_at) _
    (seen (Announced IsCompositeType 0x5e) IsFieldType field_type_at (λ field. ArrayComposite field) reads_field_type.found (λ bytes field h. (bytes, refl, h)))
    (coded (Announced IsCompositeType) 0x5d (seen_at (λ function. ContComposite function) heap_index_at) no_code
    (seen (Announced IsCompositeType 0x5d) IsHeapIndex heap_index_at (λ function. ContComposite function) heap_index_found (λ bytes function h. (bytes, refl, h)))
    (none (Announced IsCompositeType)))))

composite_again : (bytes : List ℕ) (type : CompositeType ℕ) (rest : List ℕ) → IsCompositeType bytes type → composite_type_at (bytes ++ rest) ≡ Some (type, rest)
unfolding composite_type_at
composite_again bytes (FuncComposite type) rest h = rw (h.1, reads_signature.again h.0 type rest h.2) refl
composite_again bytes (StructComposite fields) rest h = rw (h.1, reads_fields.again h.0 fields rest h.2) refl
composite_again bytes (ArrayComposite field) rest h = rw (h.1, reads_field_type.again h.0 field rest h.2) refl
composite_again bytes (ContComposite function) rest h = rw (h.1, reads_heap_index.again h.0 function rest h.2) refl

pub reads_composite_type : ReadsExactly IsCompositeType composite_type_at
unfolding composite_type_at
reads_composite_type = record { found = announced IsCompositeType composite_from composite_found; again = composite_again }

-- ---- sub types and groups

abbrev IsBelow : List ℕ → List ℕ × CompositeType ℕ → Type 0
IsBelow bytes x = IsPair (IsList IsU32) IsCompositeType bytes x

reads_below : ReadsExactly IsBelow (pair_at (list_at (unsigned_at 32)) composite_type_at)
reads_below = reads_pair (IsList IsU32) (list_at (unsigned_at 32)) IsCompositeType composite_type_at (reads_list IsU32 (unsigned_at 32) (reads_unsigned 32)) reads_composite_type

alone_found : FindsAfter (Announced IsSubType) (λ code. seen_at final_type (composite_from code))
alone_found code = seen (Announced IsSubType code) (Announced IsCompositeType code) (composite_from code) final_type (composite_found code) (λ bytes type h. inr (refl, refl, h))

sub_found : FindsAfter (Announced IsSubType) sub_from
sub_found = coded (Announced IsSubType) 0x50 (below_at false) _
    (seen (Announced IsSubType 0x50) IsBelow (pair_at (list_at (unsigned_at 32)) composite_type_at) (λ x. record { is_final = false; supertypes = x.0; composite_type = x.1 }) reads_below.found (λ bytes x h. inl (bytes, refl, h)))
    (coded (Announced IsSubType) 0x4f (below_at true) _
    (seen (Announced IsSubType 0x4f) IsBelow (pair_at (list_at (unsigned_at 32)) composite_type_at) (λ x. record { is_final = true; supertypes = x.0; composite_type = x.1 }) reads_below.found (λ bytes x h. inl (bytes, refl, h)))
    alone_found)

alone_again : (encoding : List ℕ) (final : Bool) (supertypes : List ℕ) (type : CompositeType ℕ) (rest : List ℕ) → final ≡ true → supertypes ≡ [] → IsCompositeType encoding type
    → sub_type_at (encoding ++ rest) ≡ Some (record { is_final = final; supertypes = supertypes; composite_type = type }, rest)
unfolding sub_type_at composite_type_at
alone_again encoding final supertypes type rest f s h = rw (f, s)
    (past_code 0x50 (below_at false) (after_code 0x4f (below_at true) (λ code. seen_at final_type (composite_from code))) (λ bytes. refl) (encoding ++ rest) (final_type type, rest)
    (past_code 0x4f (below_at true) (λ code. seen_at final_type (composite_from code)) (λ bytes. refl) (encoding ++ rest) (final_type type, rest)
    (announced_seen final_type composite_from (encoding ++ rest) type rest (composite_again encoding type rest h))))

written_again : (bytes others : List ℕ) (final : Bool) (supertypes : List ℕ) (type : CompositeType ℕ) (rest : List ℕ) → bytes ≡ sub_code final ∷ others → IsBelow others (supertypes, type)
    → sub_type_at (bytes ++ rest) ≡ Some (record { is_final = final; supertypes = supertypes; composite_type = type }, rest)
unfolding sub_type_at
written_again bytes others true supertypes type rest e h = rw (e, reads_below.again others (supertypes, type) rest h) refl
written_again bytes others false supertypes type rest e h = rw (e, reads_below.again others (supertypes, type) rest h) refl

sub_again : (bytes : List ℕ) (type : SubType ℕ) (rest : List ℕ) → IsSubType bytes type → sub_type_at (bytes ++ rest) ≡ Some (type, rest)
sub_again bytes type rest (inl h) = written_again bytes h.0 type.is_final type.supertypes type.composite_type rest h.1 h.2
sub_again bytes type rest (inr h) = alone_again bytes type.is_final type.supertypes type.composite_type rest h.0 h.1 h.2

pub reads_sub_type : ReadsExactly IsSubType sub_type_at
unfolding sub_type_at
reads_sub_type = record { found = announced IsSubType sub_from sub_found; again = sub_again }

reads_sub_types : ReadsExactly (IsList IsSubType) (list_at sub_type_at)
reads_sub_types = reads_list IsSubType sub_type_at reads_sub_type

group_found : FindsAfter (Announced IsRecGroup) (after_code 0x4e (seen_at (λ group. Group group) (list_at sub_type_at)) (λ code. seen_at (λ type. Single type) (sub_from code)))
group_found = coded (Announced IsRecGroup) 0x4e (seen_at (λ group. Group group) (list_at sub_type_at)) _
    (seen (Announced IsRecGroup 0x4e) (IsList IsSubType) (list_at sub_type_at) (λ group. Group group) reads_sub_types.found (λ bytes group h. (bytes, refl, h)))
    (λ code. seen (Announced IsRecGroup code) (Announced IsSubType code) (sub_from code) (λ type. Single type) (sub_found code) (λ bytes type h. h))

group_again : (encoding : List ℕ) (group : RecGroup ℕ) (rest : List ℕ) → IsRecGroup encoding group → rec_group_at (encoding ++ rest) ≡ Some (group, rest)
unfolding rec_group_at sub_type_at
group_again encoding (Single type) rest h =
    past_code 0x4e (seen_at (λ group. Group group) (list_at sub_type_at)) (λ code. seen_at (λ t. Single t) (sub_from code)) (λ bytes. refl) (encoding ++ rest) (Single type, rest)
    (announced_seen (λ t. Single t) sub_from (encoding ++ rest) type rest (sub_again encoding type rest h))
group_again encoding (Group group) rest h = rw (h.1, reads_sub_types.again h.0 group rest h.2) refl

pub reads_rec_group : ReadsExactly IsRecGroup rec_group_at
unfolding rec_group_at
reads_rec_group = record { found = announced IsRecGroup _ group_found; again = group_again }
