-- Reading immediates, step by step.
use Rattle.std.proofs.Common.{◌≡◌, ◌≢◌, ℕ, Bool, true, false, List, [], ◌∷◌, Option, Some, None, refl, sym, ap, subst, ◌∙◌, inl, inr, ◌⊎◌, ltb}
use Rattle.std.specs.Prelude.{slice_get}
use Rattle.std.proofs.lemmas.Bool.{ne_eqb}
use Rattle.std.specs.List.{AllByRecursion}
use Rattle.wasm_core_read.specs.Reading.{◌>>=◌, byte_at, tested_at}
use Rattle.wasm_core_read.specs.TypeReading.{heap_index_at, heap_type_at, val_type_at}
use Rattle.wasm_core_read.proofs.Forms.{some_is}
use Rattle.wasm_bodies.specs.Operators.{Indexed}
use Rattle.wasm_spec.specs.Features.{Features, has, MultiValue}
use Rattle.wasm_spec.specs.TypeReferences.{heap_map, heap_refs, val_map, val_refs}
use Rattle.wasm_spec.specs.Types.{HeapType, Abstract, Concrete, ValType, I32, I64, F32, F64, V128, Ref}
use Rattle.wasmparser_types.specs.Index.{Index, number_of, packable}
use Rattle.wasmparser_types.specs.Index as indexes
use Rattle.wasmparser_readers.specs.ModuleIndexes.{IsModuleIndex}
use Rattle.wasmparser_readers.specs.PackedReading.{packed_index, packed_val_at, module_heap_at}
use Rattle.wasmparser_readers.proofs.MappedReading.{given}
use Rattle.wasmparser_readers.proofs.PackedLaws.{val_is}
use Rattle.wasmparser_operators.specs.OperatorReading.{Kept, Packed, is_small, kept_type_at, block_index_at, block_type_with, block_type_at, index_with_at}

-- ---- value types whose indexes can be packed

packed_small : (n : ℕ) → ltb n packable ≡ true → packed_index n ≡ indexes.Module n
packed_small n e = rw e refl

packed_large : (n : ℕ) → ltb n packable ≡ false → packed_index n ≡ indexes.RecGroup 0
packed_large n e = rw e refl

either : (b : Bool) → (b ≡ true) ⊎ (b ≡ false)
either true = inl refl
either false = inr refl

abbrev IsOf : ValType Index → Type 0
IsOf type = AllByRecursion IsModuleIndex (val_refs type)

by_heap : (nullable : Bool) (heap : HeapType ℕ) → ((is_small (Ref nullable heap) ≡ true) × (val_map number_of (val_map packed_index (Ref nullable heap)) ≡ Ref nullable heap)) ⊎ ((is_small (Ref nullable heap) ≡ false) × (IsOf (val_map packed_index (Ref nullable heap)) → ⊥))
by_heap nullable (Abstract heap) = inl (refl, refl)
by_heap nullable (Concrete n) = elim (either (ltb n packable)) [
  | inl t ↦ inl (rw t refl, rw t refl)
  | inr t ↦ inr (rw t refl, λ h. subst IsModuleIndex (packed_large n t) h.0)
]

small_or_not : (type : ValType ℕ) → ((is_small type ≡ true) × (val_map number_of (val_map packed_index type) ≡ type)) ⊎ ((is_small type ≡ false) × (IsOf (val_map packed_index type) → ⊥))
small_or_not I32 = inl (refl, refl)
small_or_not I64 = inl (refl, refl)
small_or_not F32 = inl (refl, refl)
small_or_not F64 = inl (refl, refl)
small_or_not V128 = inl (refl, refl)
small_or_not (Ref nullable heap) = by_heap nullable heap

pub kept_unread : (bytes : List ℕ) → packed_val_at bytes ≡ None → kept_type_at Packed bytes ≡ None
unfolding kept_type_at
kept_unread bytes e = by_read (val_type_at bytes) (sym (val_is bytes) ∙ e)
  where
    by_read : (read : Option (ValType ℕ × List ℕ)) → (read >>= λ a. given (val_map packed_index a.0) a.1) ≡ None → tested_at is_small (λ b. read) bytes ≡ None
    by_read None h = refl
    by_read (Some a) h = absurd cc

pub kept_read : (bytes : List ℕ) (v : ValType Index) (rest : List ℕ) → packed_val_at bytes ≡ Some (v, rest) → AllByRecursion IsModuleIndex (val_refs v) → kept_type_at Packed bytes ≡ Some (val_map number_of v, rest)
unfolding kept_type_at
kept_read bytes v rest e h = by_read (val_type_at bytes) (sym (val_is bytes) ∙ e)
  where
    by_read : (read : Option (ValType ℕ × List ℕ)) → (read >>= λ a. given (val_map packed_index a.0) a.1) ≡ given v rest → tested_at is_small (λ b. read) bytes ≡ given (val_map number_of v) rest
    by_read None f = absurd cc
    by_read (Some a) f =
        let p = some_is (val_map packed_index a.0, a.1) (v, rest) f in
        let value : val_map packed_index a.0 ≡ v = ap (λ (q : ValType Index × List ℕ). q.0) p in
        elim (small_or_not a.0) [
          | inl (t, back) ↦ rw t (ap (λ (x : ValType ℕ). given x a.1) (sym back) ∙ ap (λ (q : ValType Index × List ℕ). given (val_map number_of q.0) q.1) p)
          | inr (t, not) ↦ absurd (not (subst IsOf (sym value) h))
        ]

pub kept_large : (bytes : List ℕ) (v : ValType Index) (rest : List ℕ) → packed_val_at bytes ≡ Some (v, rest) → ¬ (AllByRecursion IsModuleIndex (val_refs v)) → kept_type_at Packed bytes ≡ None
unfolding kept_type_at
kept_large bytes v rest e h = by_read (val_type_at bytes) (sym (val_is bytes) ∙ e)
  where
    is_of : (x : ValType ℕ) → is_small x ≡ true → IsOf (val_map packed_index x)
    is_of I32 t = tt
    is_of I64 t = tt
    is_of F32 t = tt
    is_of F64 t = tt
    is_of V128 t = tt
    is_of (Ref nullable (Abstract heap)) t = tt
    is_of (Ref nullable (Concrete n)) t = elim (either (ltb n packable)) [
      | inl u ↦ (subst IsModuleIndex (sym (packed_small n u)) tt, tt)
      | inr u ↦ let f = rw u at t in absurd cc
    ]

    by_read : (read : Option (ValType ℕ × List ℕ)) → (read >>= λ a. given (val_map packed_index a.0) a.1) ≡ given v rest → tested_at is_small (λ b. read) bytes ≡ None
    by_read None f = refl
    by_read (Some a) f =
        let value : val_map packed_index a.0 ≡ v = ap (λ (q : ValType Index × List ℕ). q.0) (some_is (val_map packed_index a.0, a.1) (v, rest) f) in
        elim (either (is_small a.0)) [
          | inl t ↦ absurd (h (subst IsOf value (is_of a.0 t)))
          | inr t ↦ rw t refl
        ]

pub ruleset kept_types = (kept_unread, kept_read, kept_large)

-- ---- block types

pub no_block_index : (features : Features) (bytes : List ℕ) → has features MultiValue ≡ false → block_index_at features bytes ≡ None
unfolding block_index_at
no_block_index features bytes e = rw e refl

pub block_index_unread : (features : Features) (bytes : List ℕ) → heap_index_at bytes ≡ None → block_index_at features bytes ≡ None
unfolding block_index_at
block_index_unread features bytes e = elim (either (has features MultiValue)) [ inl t ↦ rw (t, e) refl | inr t ↦ rw t refl ]

pub block_index_read : (features : Features) (bytes : List ℕ) (n : ℕ) (rest : List ℕ) → has features MultiValue ≡ true → heap_index_at bytes ≡ Some (n, rest) → block_index_at features bytes ≡ Some (Indexed n, rest)
unfolding block_index_at
block_index_read features bytes n rest t e = rw (t, e) refl

pub ruleset block_indexes = (no_block_index, block_index_unread, block_index_read)

pub no_block : (kept : Kept) (features : Features) (bytes : List ℕ) → slice_get bytes 0 ≡ None → block_type_at kept features bytes ≡ None
unfolding block_type_at
no_block kept features [] e = refl
no_block kept features (b ∷ bs) e = absurd cc

pub block_begins : (kept : Kept) (features : Features) (bytes : List ℕ) (code : ℕ) → slice_get bytes 0 ≡ Some code → block_type_at kept features bytes ≡ block_type_with kept features code bytes
unfolding block_type_at
block_begins kept features [] code e = absurd cc
block_begins kept features (b ∷ bs) code e = ap (λ (x : ℕ). block_type_with kept features x (b ∷ bs)) (some_is b code e)

pub ruleset block_types = (no_block, block_begins)

-- ---- a single byte of 0

pub no_zero : (bytes : List ℕ) → byte_at bytes ≡ None → index_with_at false bytes ≡ None
unfolding index_with_at byte_at
no_zero [] e = refl
no_zero (b ∷ bs) e = absurd cc

pub zero_byte : (bytes : List ℕ) (rest : List ℕ) → byte_at bytes ≡ Some (0, rest) → index_with_at false bytes ≡ Some (0, rest)
unfolding index_with_at byte_at
zero_byte [] rest e = absurd cc
zero_byte (b ∷ bs) rest e =
    let same = some_is (b, bs) (0, rest) e in
    let first : b ≡ 0 = ap (λ (q : ℕ × List ℕ). q.0) same in
    rw first (ap (λ (q : ℕ × List ℕ). Some (0, q.1)) same)

pub other_byte : (bytes : List ℕ) (b : ℕ) (rest : List ℕ) → byte_at bytes ≡ Some (b, rest) → b ≢ 0 → index_with_at false bytes ≡ None
unfolding index_with_at byte_at
other_byte [] b rest e other = absurd cc
other_byte (c ∷ cs) b rest e other =
    let same : b ≡ c = sym (ap (λ (q : ℕ × List ℕ). q.0) (some_is (c, cs) (b, rest) e)) in
    rw (ne_eqb c 0 (subst (λ (x : ℕ). x ≢ 0) same other)) refl

pub ruleset zero_bytes = (no_zero, zero_byte, other_byte)

-- ---- heap types

module_back : (x : HeapType ℕ) → heap_map number_of (heap_map indexes.Module x) ≡ x
module_back (Abstract heap) = refl
module_back (Concrete n) = refl

pub heap_unread : (bytes : List ℕ) → module_heap_at bytes ≡ None → heap_type_at bytes ≡ None
unfolding module_heap_at
heap_unread bytes e = by_read (heap_type_at bytes) e
  where
    by_read : (read : Option (HeapType ℕ × List ℕ)) → (read >>= λ x. given (heap_map indexes.Module x.0) x.1) ≡ None → read ≡ None
    by_read None h = refl
    by_read (Some x) h = absurd cc

pub heap_read : (bytes : List ℕ) (v : HeapType Index) (rest : List ℕ) → module_heap_at bytes ≡ Some (v, rest) → heap_type_at bytes ≡ Some (heap_map number_of v, rest)
unfolding module_heap_at
heap_read bytes v rest e = by_read (heap_type_at bytes) e
  where
    by_read : (read : Option (HeapType ℕ × List ℕ)) → (read >>= λ x. given (heap_map indexes.Module x.0) x.1) ≡ given v rest → read ≡ given (heap_map number_of v) rest
    by_read None h = absurd cc
    by_read (Some x) h =
        let p = some_is (heap_map indexes.Module x.0, x.1) (v, rest) h in
        ap (λ (y : HeapType ℕ). given y x.1) (sym (module_back x.0)) ∙ ap (λ (q : HeapType Index × List ℕ). given (heap_map number_of q.0) q.1) p

pub heap_of_module : (bytes : List ℕ) (v : HeapType Index) (rest : List ℕ) → module_heap_at bytes ≡ Some (v, rest) → AllByRecursion IsModuleIndex (heap_refs v)
unfolding module_heap_at
heap_of_module bytes v rest e = by_read (heap_type_at bytes) e
  where
    is_of : (heap : HeapType ℕ) → AllByRecursion IsModuleIndex (heap_refs (heap_map indexes.Module heap))
    is_of (Abstract heap) = tt
    is_of (Concrete n) = (tt, tt)

    by_read : (read : Option (HeapType ℕ × List ℕ)) → (read >>= λ x. given (heap_map indexes.Module x.0) x.1) ≡ given v rest → AllByRecursion IsModuleIndex (heap_refs v)
    by_read None h = absurd cc
    by_read (Some x) h =
        subst (λ (heap : HeapType Index). AllByRecursion IsModuleIndex (heap_refs heap)) (ap (λ (q : HeapType Index × List ℕ). q.0) (some_is (heap_map indexes.Module x.0, x.1) (v, rest) h)) (is_of x.0)

pub ruleset heap_types = (heap_unread, heap_read, heap_of_module)
