-- Reading back the encodings of types that are written.
use Rattle.std.proofs.Common.{◌≡◌, ℕ, ◌%◌, ◌+◌, ◌<◌, ◌≤◌, Bool, true, false, cond, ltb, List, [], ◌∷◌, ◌++◌, Option, Some, None, inl, inr, refl, ap, ◌∙◌, arith, append_assoc}
use Rattle.std.specs.Prelude.{◌==◌, if◌then◌else◌}
use Rattle.std.proofs.lemmas.Bool.{le-ltb, lt-ltb, cases_lt}
use Rattle.wasm_spec.specs.Shortest.{unsigned_encoding, list_encoding}
use Rattle.wasm_spec.specs.TypeGrammar.{heap_code}
use Rattle.wasm_spec.specs.TypeEncodings.{heap_encoding, ref_encoding, val_encoding, storage_encoding, field_encoding, func_encoding, composite_encoding, sub_encoding_of, sub_encoding}
use Rattle.wasm_spec.specs.Types.{AbstractHeapType, HeapType, Abstract, Concrete, ValType, I32, I64, F32, F64, V128, Ref, StorageType, I8, I16, Val, FieldType, FuncType, CompositeType, FuncComposite, StructComposite, ArrayComposite, ContComposite, SubType}
use Rattle.wasm_spec.specs.Types as types
use Rattle.wasm_spec.proofs.Decoding.{Reader, ◌>>=◌, Decodes, unsigned_at, unsigned_decodes, index_encoding, index_at, index_decodes, list_at, list_decodes}
use Rattle.wasm_spec.proofs.SignedEncodings.{magnitude_last, magnitude_more}

-- the abstract heap type of a byte
heap_of : ℕ → Option AbstractHeapType
heap_of b =
    if ltb b 64 then None else if ltb 127 b then None
    else if b == 0x75 then Some types.NoCont else if b == 0x74 then Some types.NoExn else if b == 0x73 then Some types.NoFunc
    else if b == 0x72 then Some types.NoExtern else if b == 0x71 then Some types.None else if b == 0x70 then Some types.Func
    else if b == 0x6f then Some types.Extern else if b == 0x6e then Some types.Any else if b == 0x6d then Some types.Eq
    else if b == 0x6c then Some types.I31 else if b == 0x6b then Some types.Struct else if b == 0x6a then Some types.Array
    else if b == 0x69 then Some types.Exn else if b == 0x68 then Some types.Cont else None

concrete_of : Reader (HeapType ℕ)
concrete_of bytes = index_at bytes >>= λ x. Some (Concrete x.0, x.1)

abstract_or : Option AbstractHeapType → List ℕ → Option (HeapType ℕ × List ℕ) → Option (HeapType ℕ × List ℕ)
abstract_or (Some heap) rest other = Some (Abstract heap, rest)
abstract_or None rest other = other

heap_at : Reader (HeapType ℕ)
heap_at [] = None
heap_at (b ∷ rest) = abstract_or (heap_of b) rest (concrete_of (b ∷ rest))

abstract_heap : (heap : AbstractHeapType) (rest : List ℕ) → heap_at (heap_code heap ∷ rest) ≡ Some (Abstract heap, rest)
unfolding heap_at heap_of abstract_or
abstract_heap types.Func rest = refl
abstract_heap types.Extern rest = refl
abstract_heap types.Any rest = refl
abstract_heap types.None rest = refl
abstract_heap types.NoExtern rest = refl
abstract_heap types.NoFunc rest = refl
abstract_heap types.Eq rest = refl
abstract_heap types.Struct rest = refl
abstract_heap types.Array rest = refl
abstract_heap types.I31 rest = refl
abstract_heap types.Exn rest = refl
abstract_heap types.NoExn rest = refl
abstract_heap types.Cont rest = refl
abstract_heap types.NoCont rest = refl

low_none : (b : ℕ) → b < 64 → heap_of b ≡ None
unfolding heap_of
low_none b low = let t : ltb b 64 ≡ true = lt-ltb b 64 low in rw t refl

high_none : (b : ℕ) → 128 ≤ b → heap_of b ≡ None
unfolding heap_of
high_none b high =
    let t : ltb b 64 ≡ false = le-ltb b 64 (omega arith) in
    let u : ltb 127 b ≡ true = lt-ltb 127 b (omega arith) in
    rw (t, u) refl

-- the first byte of an index is that of no abstract heap type
concrete_first : (bytes : List ℕ) (b : ℕ) (rest : List ℕ) → bytes ≡ b ∷ rest → heap_of b ≡ None → heap_at bytes ≡ concrete_of bytes
unfolding heap_at abstract_or
concrete_first bytes b rest e none = rw (e, none) refl

concrete_heap : (index : ℕ) (rest : List ℕ) → heap_at (index_encoding index ++ rest) ≡ Some (Concrete index, rest)
unfolding concrete_of
concrete_heap index rest =
    let read : concrete_of (index_encoding index ++ rest) ≡ Some (Concrete index, rest) = rw (index_decodes index rest) refl in
    elim (cases_lt index 64) [
      | inl low ↦
          let e = ap (λ (l : List ℕ). l ++ rest) (magnitude_last false index low) in
          concrete_first (index_encoding index ++ rest) (index % 128) rest e (low_none (index % 128) (omega arith)) ∙ read
      | inr high ↦
          let e = ap (λ (l : List ℕ). l ++ rest) (magnitude_more false index high) in
          concrete_first (index_encoding index ++ rest) (index % 128 + 128) _ e (high_none (index % 128 + 128) (omega arith)) ∙ read
    ]

heap_decodes : Decodes heap_encoding heap_at
unfolding heap_encoding
heap_decodes (Abstract heap) rest = abstract_heap heap rest
heap_decodes (Concrete index) rest = concrete_heap index rest

val_of : Option AbstractHeapType → List ℕ → Option (ValType ℕ × List ℕ)
val_of (Some heap) rest = Some (Ref true (Abstract heap), rest)
val_of None rest = None

val_at : Reader (ValType ℕ)
val_at [] = None
val_at (b ∷ rest) =
    if b == 0x7f then Some (I32, rest) else if b == 0x7e then Some (I64, rest) else if b == 0x7d then Some (F32, rest)
    else if b == 0x7c then Some (F64, rest) else if b == 0x7b then Some (V128, rest)
    else if b == 0x63 then (heap_at rest >>= λ x. Some (Ref true x.0, x.1))
    else if b == 0x64 then (heap_at rest >>= λ x. Some (Ref false x.0, x.1))
    else val_of (heap_of b) rest

abstract_val : (heap : AbstractHeapType) (rest : List ℕ) → val_at (heap_code heap ∷ rest) ≡ Some (Ref true (Abstract heap), rest)
unfolding val_at val_of heap_of
abstract_val types.Func rest = refl
abstract_val types.Extern rest = refl
abstract_val types.Any rest = refl
abstract_val types.None rest = refl
abstract_val types.NoExtern rest = refl
abstract_val types.NoFunc rest = refl
abstract_val types.Eq rest = refl
abstract_val types.Struct rest = refl
abstract_val types.Array rest = refl
abstract_val types.I31 rest = refl
abstract_val types.Exn rest = refl
abstract_val types.NoExn rest = refl
abstract_val types.Cont rest = refl
abstract_val types.NoCont rest = refl

val_decodes : Decodes val_encoding val_at
unfolding val_encoding ref_encoding heap_encoding val_at
val_decodes I32 rest = refl
val_decodes I64 rest = refl
val_decodes F32 rest = refl
val_decodes F64 rest = refl
val_decodes V128 rest = refl
val_decodes (Ref true (Abstract heap)) rest = abstract_val heap rest
val_decodes (Ref true (Concrete index)) rest = rw (heap_decodes (Concrete index) rest) refl
val_decodes (Ref false heap) rest = rw (heap_decodes heap rest) refl

storage_at : Reader (StorageType ℕ)
storage_at [] = None
storage_at (b ∷ rest) =
    if b == 0x78 then Some (I8, rest) else if b == 0x77 then Some (I16, rest)
    else (val_at (b ∷ rest) >>= λ x. Some (Val x.0, x.1))

-- the first byte of a value type is that of no packed type
abstract_storage : (heap : AbstractHeapType) (rest : List ℕ) → storage_at (heap_code heap ∷ rest) ≡ Some (Val (Ref true (Abstract heap)), rest)
unfolding storage_at val_at val_of heap_of
abstract_storage types.Func rest = refl
abstract_storage types.Extern rest = refl
abstract_storage types.Any rest = refl
abstract_storage types.None rest = refl
abstract_storage types.NoExtern rest = refl
abstract_storage types.NoFunc rest = refl
abstract_storage types.Eq rest = refl
abstract_storage types.Struct rest = refl
abstract_storage types.Array rest = refl
abstract_storage types.I31 rest = refl
abstract_storage types.Exn rest = refl
abstract_storage types.NoExn rest = refl
abstract_storage types.Cont rest = refl
abstract_storage types.NoCont rest = refl

storage_decodes : Decodes storage_encoding storage_at
unfolding storage_encoding val_encoding ref_encoding heap_encoding storage_at val_at
storage_decodes I8 rest = refl
storage_decodes I16 rest = refl
storage_decodes (Val I32) rest = refl
storage_decodes (Val I64) rest = refl
storage_decodes (Val F32) rest = refl
storage_decodes (Val F64) rest = refl
storage_decodes (Val V128) rest = refl
storage_decodes (Val (Ref true (Abstract heap))) rest = abstract_storage heap rest
storage_decodes (Val (Ref true (Concrete index))) rest = rw (heap_decodes (Concrete index) rest) refl
storage_decodes (Val (Ref false heap)) rest = rw (heap_decodes heap rest) refl

mutable_at : StorageType ℕ → Reader (FieldType ℕ)
mutable_at element [] = None
mutable_at element (b ∷ rest) = Some (record { element_type = element; mutable = b == 0x01 }, rest)

field_at : Reader (FieldType ℕ)
field_at bytes = storage_at bytes >>= λ x. mutable_at x.0 x.1

field_decodes : Decodes field_encoding field_at
unfolding field_encoding field_at mutable_at
field_decodes field rest =
    rw (append_assoc (storage_encoding field.element_type) ((cond field.mutable 0x01 0x00) ∷ []) rest, storage_decodes field.element_type ((cond field.mutable 0x01 0x00) ∷ rest))
    (ap (λ (m : Bool). Some (record { element_type = field.element_type; mutable = m }, rest)) (told field.mutable))
  where
    told : (m : Bool) → (cond m 0x01 0x00 == 0x01) ≡ m
    told true = refl
    told false = refl

func_from : Reader (FuncType ℕ)
func_from bytes = list_at val_at bytes >>= λ params. list_at val_at params.1 >>= λ results. Some (record { params = params.0; results = results.0 }, results.1)

func_from_decodes : (type : FuncType ℕ) (rest : List ℕ) → func_from ((list_encoding val_encoding type.params ++ list_encoding val_encoding type.results) ++ rest) ≡ Some (type, rest)
unfolding func_from
func_from_decodes type rest =
    rw (
      append_assoc (list_encoding val_encoding type.params) (list_encoding val_encoding type.results) rest,
      list_decodes val_encoding val_at val_decodes type.params (list_encoding val_encoding type.results ++ rest),
      list_decodes val_encoding val_at val_decodes type.results rest,
    ) refl

composite_at : Reader (CompositeType ℕ)
composite_at [] = None
composite_at (b ∷ rest) =
    if b == 0x60 then (func_from rest >>= λ x. Some (FuncComposite x.0, x.1))
    else if b == 0x5f then (list_at field_at rest >>= λ x. Some (StructComposite x.0, x.1))
    else if b == 0x5e then (field_at rest >>= λ x. Some (ArrayComposite x.0, x.1))
    else if b == 0x5d then (index_at rest >>= λ x. Some (ContComposite x.0, x.1))
    else None

composite_decodes : Decodes composite_encoding composite_at
unfolding composite_encoding func_encoding composite_at
composite_decodes (FuncComposite type) rest = rw (func_from_decodes type rest) refl
composite_decodes (StructComposite fields) rest = rw (list_decodes field_encoding field_at field_decodes fields rest) refl
composite_decodes (ArrayComposite field) rest = rw (field_decodes field rest) refl
composite_decodes (ContComposite index) rest = rw (index_decodes index rest) refl

below : Bool → Reader (SubType ℕ)
below final bytes = list_at unsigned_at bytes >>= λ supers. composite_at supers.1 >>= λ x. Some (record { is_final = final; supertypes = supers.0; composite_type = x.0 }, x.1)

below_decodes : (final : Bool) (supers : List ℕ) (type : CompositeType ℕ) (rest : List ℕ)
    → below final ((list_encoding unsigned_encoding supers ++ composite_encoding type) ++ rest) ≡ Some (record { is_final = final; supertypes = supers; composite_type = type }, rest)
unfolding below
below_decodes final supers type rest =
    rw (
      append_assoc (list_encoding unsigned_encoding supers) (composite_encoding type) rest,
      list_decodes unsigned_encoding unsigned_at unsigned_decodes supers (composite_encoding type ++ rest),
      composite_decodes type rest,
    ) refl

pub sub_at : Reader (SubType ℕ)
sub_at [] = None
sub_at (b ∷ rest) =
    if b == 0x50 then below false rest else if b == 0x4f then below true rest
    else (composite_at (b ∷ rest) >>= λ x. Some (record { is_final = true; supertypes = []; composite_type = x.0 }, x.1))

alone : (type : CompositeType ℕ) (rest : List ℕ) → sub_at (composite_encoding type ++ rest) ≡ Some (record { is_final = true; supertypes = []; composite_type = type }, rest)
unfolding composite_encoding func_encoding composite_at sub_at
alone (FuncComposite type) rest = rw (func_from_decodes type rest) refl
alone (StructComposite fields) rest = rw (list_decodes field_encoding field_at field_decodes fields rest) refl
alone (ArrayComposite field) rest = rw (field_decodes field rest) refl
alone (ContComposite index) rest = rw (index_decodes index rest) refl

sub_of_decodes : (final : Bool) (supers : List ℕ) (type : CompositeType ℕ) (rest : List ℕ)
    → sub_at (sub_encoding_of final supers type ++ rest) ≡ Some (record { is_final = final; supertypes = supers; composite_type = type }, rest)
unfolding sub_encoding_of sub_at
sub_of_decodes true [] type rest = alone type rest
sub_of_decodes true (index ∷ indexes) type rest = below_decodes true (index ∷ indexes) type rest
sub_of_decodes false indexes type rest = below_decodes false indexes type rest

pub sub_decodes : Decodes sub_encoding sub_at
sub_decodes type rest = sub_of_decodes type.is_final type.supertypes type.composite_type rest

-- whether a type's encoding begins with the byte of a group
unfoldable pub group_or : {A : Type 0} → Reader A → Reader A → Reader A
group_or grouped single [] = None
group_or grouped single (b ∷ rest) = if b == 0x4e then grouped rest else single (b ∷ rest)

pub no_group : {A : Type 0} (grouped single : Reader A) (type : SubType ℕ) (rest : List ℕ) → group_or grouped single (sub_encoding type ++ rest) ≡ single (sub_encoding type ++ rest)
unfolding sub_encoding_of composite_encoding func_encoding group_or
no_group grouped single type rest = by_form type.is_final type.supertypes type.composite_type
  where
    by_form : (final : Bool) (supers : List ℕ) (composite : CompositeType ℕ) → group_or grouped single (sub_encoding_of final supers composite ++ rest) ≡ single (sub_encoding_of final supers composite ++ rest)
    by_form true [] (FuncComposite func) = refl
    by_form true [] (StructComposite fields) = refl
    by_form true [] (ArrayComposite field) = refl
    by_form true [] (ContComposite index) = refl
    by_form true (index ∷ indexes) composite = refl
    by_form false indexes composite = refl
