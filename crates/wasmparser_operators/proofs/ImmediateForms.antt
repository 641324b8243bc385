-- Immediates are read as their forms say.
use Rattle.std.proofs.Common.{◌≡◌, ◌≢◌, ◌≤◌, ◌<◌, ◌+◌, ◌-◌, ◌^◌, ◌⊎◌, ℕ, Bool, true, false, cond, List, [], ◌∷◌, ◌++◌, Option, Some, None, refl, sym, ap, subst, ◌∙◌, append_assoc, inl, inr, arith, leb}
use Rattle.std.proofs.lemmas.Bool.{ne_eqb, lt-ltb, le-ltb, le-leb}
use Rattle.std.proofs.lemmas.Bool.Decides.{eqb_tells, nat_tests}
use Rattle.std.proofs.lemmas.Int.{ints}
use Rattle.wasm_bodies.specs.OperatorGrammar.{IsBlockType, IsIndexWith, IsAlignment, IsOffset, IsMemoryArgument}
use Rattle.wasm_bodies.specs.Operators.{BlockType, Empty, Value, Indexed}
use Rattle.wasm_core_read.specs.Laws.{ReadsExactly}
use Rattle.wasm_core_read.specs.Reading.{◌>>=◌, byte_at, unsigned_at, pair_at}
use Rattle.wasm_core_read.specs.TypeReading.{list_at, heap_index_at, val_type_at}
use Rattle.wasm_core_read.proofs.Forms.{bind_some, some_is, ltb_tells, joined, rest_bytes, Found, reads_unsigned, unsigned_again}
use Rattle.wasm_core_read.proofs.ListForms.{reads_list}
use Rattle.wasm_core_read.proofs.TypeForms.{reads_heap_index, reads_val_type}
use Rattle.wasm_core_read.proofs.WayForms.{Finds, seen, reads_pair, reads_seen}
use Rattle.wasm_spec.specs.Bytes.{AreBytes, IsU32, IsPair, IsList}
use Rattle.wasm_spec.specs.Features.{Features, has, MultiValue, MultiMemory}
use Rattle.wasm_spec.specs.TypeGrammar.{heap_code, IsHeapIndex, IsBareHeap, IsReference, IsValType}
use Rattle.wasm_spec.specs.Types.{AbstractHeapType, HeapType, Abstract, Concrete, ValType, I32, I64, F32, F64, V128, Ref}
use Rattle.wasm_spec.specs.Types as types
use Rattle.wasmparser_operators.specs.OperatorReading.{All, is_kept, are_kept, begins_index, kept_type_at, block_index_at, block_type_with, block_type_at, index_with_at, alignment_from, alignment_at, offset_bits, memory_argument_at, types_at, labels_at}

either : (b : Bool) → (b ≡ true) ⊎ (b ≡ false)
either true = inl refl
either false = inr refl

-- ---- types, all of which are kept

all_kept : (bytes : List ℕ) → kept_type_at All bytes ≡ val_type_at bytes
unfolding kept_type_at
all_kept bytes = by_read (val_type_at bytes)
  where
    by_read : (read : Option (ValType ℕ × List ℕ)) → (read >>= λ a. cond (is_kept All a.0) (Some a) None) ≡ read
    by_read None = refl
    by_read (Some a) = refl

pub reads_kept_type : ReadsExactly IsValType (kept_type_at All)
reads_kept_type = record {
  found = λ bytes v rest are e. reads_val_type.found bytes v rest are (sym (all_kept bytes) ∙ e);
  again = λ encoding v rest h. all_kept (encoding ++ rest) ∙ reads_val_type.again encoding v rest h;
}

are_all_kept : (vs : List (ValType ℕ)) → are_kept All vs ≡ true
are_all_kept [] = refl
are_all_kept (v ∷ []) = refl
are_all_kept (v ∷ w ∷ ws) = refl

all_types : (bytes : List ℕ) → types_at All bytes ≡ list_at val_type_at bytes
unfolding types_at
all_types bytes = by_read (list_at val_type_at bytes)
  where
    by_read : (read : Option (List (ValType ℕ) × List ℕ)) → (read >>= λ a. cond (are_kept All a.0) (Some a) None) ≡ read
    by_read None = refl
    by_read (Some a) = rw (are_all_kept a.0) refl

listed_types : ReadsExactly (IsList IsValType) (list_at val_type_at)
listed_types = reads_list IsValType val_type_at reads_val_type

pub reads_types : ReadsExactly (IsList IsValType) (types_at All)
reads_types = record {
  found = λ bytes v rest are e. listed_types.found bytes v rest are (sym (all_types bytes) ∙ e);
  again = λ encoding v rest h. all_types (encoding ++ rest) ∙ listed_types.again encoding v rest h;
}

-- ---- block types

heap_byte : (heap : AbstractHeapType) → (0x41 ≤ heap_code heap) × (heap_code heap ≤ 0x7f)
heap_byte types.Func = (omega arith, omega arith)
heap_byte types.Extern = (omega arith, omega arith)
heap_byte types.Any = (omega arith, omega arith)
heap_byte types.None = (omega arith, omega arith)
heap_byte types.NoExtern = (omega arith, omega arith)
heap_byte types.NoFunc = (omega arith, omega arith)
heap_byte types.Eq = (omega arith, omega arith)
heap_byte types.Struct = (omega arith, omega arith)
heap_byte types.Array = (omega arith, omega arith)
heap_byte types.I31 = (omega arith, omega arith)
heap_byte types.Exn = (omega arith, omega arith)
heap_byte types.NoExn = (omega arith, omega arith)
heap_byte types.Cont = (omega arith, omega arith)
heap_byte types.NoCont = (omega arith, omega arith)

-- the first byte of a value type
record BeginsType (encoding : List ℕ) : Type 0 where
  byte : ℕ
  others : List ℕ
  parts : encoding ≡ byte ∷ others
  from : 0x41 ≤ byte
  to : byte ≤ 0x7f

begins_with : (encoding : List ℕ) (b : ℕ) (bs : List ℕ) → encoding ≡ b ∷ bs → 0x41 ≤ b → b ≤ 0x7f → BeginsType encoding
begins_with encoding b bs e l h = record { byte = b; others = bs; parts = e; from = l; to = h }

begins_bare : (encoding : List ℕ) (heap : HeapType ℕ) → IsBareHeap encoding heap → BeginsType encoding
begins_bare encoding (Abstract heap) h = let b = heap_byte heap in begins_with encoding (heap_code heap) [] h b.0 b.1
begins_bare encoding (Concrete n) h = absurd h

begins_reference : (encoding : List ℕ) (nullable : Bool) (heap : HeapType ℕ) → IsReference nullable encoding heap → BeginsType encoding
begins_reference encoding true heap (inl h) = begins_with encoding 0x63 h.0 h.1 (omega arith) (omega arith)
begins_reference encoding true heap (inr h) = begins_bare encoding heap h
begins_reference encoding false heap h = begins_with encoding 0x64 h.0 h.1 (omega arith) (omega arith)

begins_type : (encoding : List ℕ) (type : ValType ℕ) → IsValType encoding type → BeginsType encoding
begins_type encoding I32 h = begins_with encoding 0x7f [] h (omega arith) (omega arith)
begins_type encoding I64 h = begins_with encoding 0x7e [] h (omega arith) (omega arith)
begins_type encoding F32 h = begins_with encoding 0x7d [] h (omega arith) (omega arith)
begins_type encoding F64 h = begins_with encoding 0x7c [] h (omega arith) (omega arith)
begins_type encoding V128 h = begins_with encoding 0x7b [] h (omega arith) (omega arith)
begins_type encoding (Ref nullable heap) h = begins_reference encoding nullable heap h

-- the first byte of an index
first_of_index : (b : ℕ) (bs : List ℕ) (index : ℕ) → IsHeapIndex (b ∷ bs) index → (b < 64) ⊎ (128 ≤ b)
first_of_index b [] index (inl h) = inl h.0
first_of_index b [] index (inr h) = absurd (omega (arith, ints, h.1, h.3))
first_of_index b (c ∷ cs) index h = inr h.0

leb_false : (a b : ℕ) → b < a → leb a b ≡ false
leb_false a b lt = grind (arith, nat_tests)

is_index_byte : (b : ℕ) → (b < 64) ⊎ (128 ≤ b) → begins_index b ≡ true
is_index_byte b (inl lt) = rw (lt-ltb b 0x40 lt) refl
is_index_byte b (inr le) = rw (le-ltb b 0x40 (omega (arith, le)), le-leb 0x80 b le) refl

is_type_byte : (b : ℕ) → 0x41 ≤ b → b ≤ 0x7f → begins_index b ≡ false
is_type_byte b l h = rw (le-ltb b 0x40 (omega (arith, l)), leb_false 0x80 b (omega (arith, h))) refl

block_with_found : (features : Features) (b : ℕ) (bs : List ℕ) (v : BlockType ℕ) (rest : List ℕ) → AreBytes (b ∷ bs) → block_type_with All features b (b ∷ bs) ≡ Some (v, rest) → Found (IsBlockType features) (b ∷ bs) v rest
unfolding byte_at block_index_at
block_with_found features b bs v rest are e = elim (eqb_tells b 0x40) [
  | inl (t, same) ↦
      subst (λ (x : BlockType ℕ × List ℕ). Found (IsBlockType features) (b ∷ bs) x.0 x.1) (some_is (Empty, bs) (v, rest) (rw t at e)) (b ∷ [], refl, ap (λ (n : ℕ). n ∷ []) same)
  | inr (t, other) ↦ elim (either (begins_index b)) [
    | inl u ↦ elim (either (has features MultiValue)) [
      | inl m ↦ seen (IsBlockType features) IsHeapIndex heap_index_at (λ index. Indexed index) reads_heap_index.found (λ encoding index h. (m, h)) (b ∷ bs) v rest are (rw (t, u, m) at e)
      | inr m ↦ let f = rw (t, u, m) at e in absurd cc
    ]
    | inr u ↦ seen (IsBlockType features) IsValType (kept_type_at All) (λ type. Value type) reads_kept_type.found (λ encoding type h. h) (b ∷ bs) v rest are (rw (t, u) at e)
  ]
]

typed_again : (features : Features) (b : ℕ) (bs : List ℕ) (type : ValType ℕ) (rest : List ℕ) → 0x41 ≤ b → b ≤ 0x7f → IsValType (b ∷ bs) type → block_type_at All features ((b ∷ bs) ++ rest) ≡ Some (Value type, rest)
unfolding block_type_at
typed_again features b bs type rest l h is = rw (ne_eqb b 0x40 (λ f. absurd (omega (arith, l, f))), is_type_byte b l h, reads_kept_type.again (b ∷ bs) type rest is) refl

indexed_again : (features : Features) (encoding : List ℕ) (index : ℕ) (rest : List ℕ) → has features MultiValue ≡ true → IsHeapIndex encoding index → block_type_at All features (encoding ++ rest) ≡ Some (Indexed index, rest)
unfolding block_type_at block_index_at
indexed_again features [] index rest m h = absurd h
indexed_again features (b ∷ bs) index rest m h =
    let first = first_of_index b bs index h in
    let other : b ≢ 0x40 = λ f. elim first [ inl lt ↦ absurd (omega (arith, lt, f)) | inr le ↦ absurd (omega (arith, le, f)) ] in
    rw (ne_eqb b 0x40 other, is_index_byte b first, m, reads_heap_index.again (b ∷ bs) index rest h) refl

block_found : (features : Features) (bytes : List ℕ) (v : BlockType ℕ) (rest : List ℕ) → AreBytes bytes → block_type_at All features bytes ≡ Some (v, rest) → Found (IsBlockType features) bytes v rest
unfolding block_type_at
block_found features [] v rest are e = absurd cc
block_found features (b ∷ bs) v rest are e = block_with_found features b bs v rest are e

block_again : (features : Features) (encoding : List ℕ) (v : BlockType ℕ) (rest : List ℕ) → IsBlockType features encoding v → block_type_at All features (encoding ++ rest) ≡ Some (v, rest)
unfolding block_type_at byte_at
block_again features encoding Empty rest h = rw h refl
block_again features encoding (Value type) rest h =
    let b = begins_type encoding type h in
    ap (λ (l : List ℕ). block_type_at All features (l ++ rest)) b.parts ∙ typed_again features b.byte b.others type rest b.from b.to (subst (λ (l : List ℕ). IsValType l type) b.parts h)
block_again features encoding (Indexed index) rest h = indexed_again features encoding index rest h.0 h.1

pub reads_block_type : (features : Features) → ReadsExactly (IsBlockType features) (block_type_at All features)
reads_block_type features = record { found = block_found features; again = block_again features }

-- ---- indexes that may be a single byte of 0

pub reads_index_with : (several : Bool) → ReadsExactly (IsIndexWith several) (index_with_at several)
unfolding index_with_at
reads_index_with true = record { found = (reads_unsigned 32).found; again = (reads_unsigned 32).again }
reads_index_with false = record { found = zero_found; again = λ encoding v rest h. rw (h.0, h.1) refl }
  where
    zero_found : Finds (IsIndexWith false) (index_with_at false)
    zero_found [] v rest are e = absurd cc
    zero_found (b ∷ bs) v rest are e = elim (eqb_tells b 0) [
      | inl (t, same) ↦ subst (λ (x : ℕ × List ℕ). Found (IsIndexWith false) (b ∷ bs) x.0 x.1) (some_is (0, bs) (v, rest) (rw t at e)) (b ∷ [], refl, (ap (λ (n : ℕ). n ∷ []) same, refl))
      | inr (t, other) ↦ let f = rw t at e in absurd cc
    ]

-- ---- where an access goes

alignment_found : (features : Features) → Finds (IsAlignment features) (alignment_at (has features MultiMemory))
unfolding alignment_at
alignment_found features bytes v rest are e =
    let n = bind_some (unsigned_at 32 bytes) (λ flags. alignment_from (has features MultiMemory) flags.0 flags.1) (v, rest) e in
    let f = (reads_unsigned 32).found bytes n.0.0 n.0.1 are n.1 in
    by_flags n.0.0 n.0.1 f.0 f.1 f.2 n.2
  where
    by_flags : (flags : ℕ) (after first : List ℕ) → bytes ≡ first ++ after → IsU32 first flags → alignment_from (has features MultiMemory) flags after ≡ Some (v, rest) → Found (IsAlignment features) bytes v rest
    by_flags flags after first parts is g = elim (ltb_tells flags (2 ^ 6)) [
      | inl (t, lt) ↦ subst (λ (x : (ℕ × ℕ) × List ℕ). Found (IsAlignment features) bytes x.0 x.1) (some_is ((flags, 0), after) (v, rest) (rw t at g)) (first, parts, (lt, inl (is, refl)))
      | inr (t, le) ↦ elim (either (has features MultiMemory)) [
        | inl m ↦ elim (ltb_tells flags (2 ^ 7)) [
          | inl (u, lt) ↦
              let s = bind_some (unsigned_at 32 after) (λ memory. Some ((flags - 2 ^ 6, memory.0), memory.1)) (v, rest) (rw (t, m, u) at g) in
              let second = (reads_unsigned 32).found after s.0.0 s.0.1 (rest_bytes bytes first after are parts) s.1 in
              let back : flags ≡ (flags - 2 ^ 6) + 2 ^ 6 = omega (arith, le) in
              let small : flags - 2 ^ 6 < 2 ^ 6 = omega (arith, lt, le) in
              subst (λ (x : (ℕ × ℕ) × List ℕ). Found (IsAlignment features) bytes x.0 x.1) (some_is ((flags - 2 ^ 6, s.0.0), s.0.1) (v, rest) s.2)
              (first ++ second.0, joined bytes first after second.0 s.0.1 parts second.1, (small, inr (m, (first, second.0, refl, subst (λ (k : ℕ). IsU32 first k) back is, second.2))))
          | inr (u, many) ↦ let f = rw (t, m, u) at g in absurd cc
        ]
        | inr m ↦ let f = rw (t, m) at g in absurd cc
      ]
    ]

alignment_again : (features : Features) (encoding : List ℕ) (v : ℕ × ℕ) (rest : List ℕ) → IsAlignment features encoding v → alignment_at (has features MultiMemory) (encoding ++ rest) ≡ Some (v, rest)
unfolding alignment_at
alignment_again features encoding (exponent, memory) rest (lt, inl (is, zero)) =
    rw (unsigned_again 32 encoding exponent rest is, lt-ltb exponent (2 ^ 6) lt) (ap (λ (m : ℕ). Some ((exponent, m), rest)) (sym zero))
alignment_again features encoding (exponent, memory) rest (lt, inr (m, p)) =
    let split : encoding ++ rest ≡ p.0 ++ (p.1 ++ rest) = rw p.2 (append_assoc p.0 p.1 rest) in
    let low : 2 ^ 6 ≤ exponent + 2 ^ 6 = omega arith in
    let high : exponent + 2 ^ 6 < 2 ^ 7 = omega (arith, lt) in
    let back : exponent + 2 ^ 6 - 2 ^ 6 ≡ exponent = omega arith in
    ap (alignment_at (has features MultiMemory)) split
    ∙ rw (unsigned_again 32 p.0 (exponent + 2 ^ 6) (p.1 ++ rest) p.3, le-ltb (exponent + 2 ^ 6) (2 ^ 6) low, m, lt-ltb (exponent + 2 ^ 6) (2 ^ 7) high, unsigned_again 32 p.1 memory rest p.4)
    (ap (λ (k : ℕ). Some ((k, memory), rest)) back)

pub reads_memory_argument : (features : Features) → ReadsExactly (IsMemoryArgument features) (memory_argument_at features)
unfolding memory_argument_at
reads_memory_argument features =
    reads_seen (IsPair (IsAlignment features) (IsOffset features)) (pair_at (alignment_at (has features MultiMemory)) (unsigned_at (offset_bits features)))
    (λ x. record { exponent = x.0.0; memory = x.0.1; offset = x.1 }) (λ m. ((m.exponent, m.memory), m.offset)) (λ x. refl) (λ m. refl)
    (reads_pair (IsAlignment features) (alignment_at (has features MultiMemory)) (IsOffset features) (unsigned_at (offset_bits features)) (record { found = alignment_found features; again = alignment_again features }) (reads_unsigned (offset_bits features)))

-- ---- labels

pub reads_labels : ReadsExactly (IsPair (IsList IsU32) IsU32) labels_at
unfolding labels_at
reads_labels = reads_pair (IsList IsU32) (list_at (unsigned_at 32)) IsU32 (unsigned_at 32) (reads_list IsU32 (unsigned_at 32) (reads_unsigned 32)) (reads_unsigned 32)
