-- The bytes after an operator are fewer.
use Rattle.std.proofs.Common.{◌≡◌, ◌≤◌, ◌<◌, ◌^◌, ◌-◌, ℕ, zero, suc, Bool, true, false, cond, ltb, List, [], ◌∷◌, length, Option, Some, None, ap, arith, inl, inr}
use Rattle.std.proofs.lemmas.Bool.Decides.{eqb_tells}
use Rattle.std.proofs.lemmas.Option.{cond_some}
use Rattle.wasm_bodies.specs.OperatorGrammar.{is_prefix}
use Rattle.wasm_bodies.specs.OperatorRows.{Byte, Prefixed}
use Rattle.wasm_bodies.specs.Operators.{Empty, Value, Indexed, Operator}
use Rattle.wasm_core_read.specs.Reading.{◌>>=◌, ReadingOf, byte_at, unsigned_at, last_signed, above, signed_at, bytes_at, float_at, seen_at, tested_at, pair_at}
use Rattle.wasm_core_read.specs.TypeReading.{items_at, list_at, look_up, heap_codes, heap_index_at, heap_with, heap_type_at, val_type_codes, val_type_from, val_type_at, index_of}
use Rattle.wasm_core_read.proofs.BytesLaws.{bytes_length}
use Rattle.wasm_core_read.proofs.Forms.{bind_some, some_is, ltb_tells}
use Rattle.wasm_core_read.proofs.ModuleForms.{number_shorter}
use Rattle.wasm_spec.specs.Bytes.{low_first}
use Rattle.wasm_spec.specs.Features.{Features, has, ReferenceTypes, MultiValue, MultiMemory}
use Rattle.wasm_spec.specs.Types.{AbstractHeapType, Abstract, Concrete, Ref}
use Rattle.wasmparser_operators.specs.OperatorReading.{Kept, All, is_kept, are_kept, Shape, Bare, Number, Numbers, OfTable, OfMemory, Access, OfBlock, OfHeap, OfTypes, Labels, Signed, Float, Sixteen, shape_at, shape_of, shaped_at, coded_at, code_from, code_at, kept_operator_at, operator_at, kept_type_at, begins_index, block_index_at, block_type_at, index_with_at, alignment_from, alignment_at, offset_bits, memory_argument_at, types_at, labels_at}

-- what is left is no longer, and is shorter
abbrev pub Keeps : {A : Type 0} → ReadingOf A → Type 0
Keeps {A} a_at = (bytes : List ℕ) (v : A) (rest : List ℕ) → a_at bytes ≡ Some (v, rest) → length rest ≤ length bytes

-- ---- ways of reading that are made of others

left : {A : Type 0} (a b : A) (x y : List ℕ) → ◌≡◌ {A = Option (A × List ℕ)} (Some (a, x)) (Some (b, y)) → length x ≡ length y
left {A} a b x y e = ap (λ (p : A × List ℕ). length p.1) (some_is (a, x) (b, y) e)

keeps_seen : {A B : Type 0} (view : A → B) (a_at : ReadingOf A) → Keeps a_at → Keeps (seen_at view a_at)
keeps_seen view a_at law bytes v rest e =
    let a = bind_some (a_at bytes) (λ a. Some (view a.0, a.1)) (v, rest) e in
    omega (arith, law bytes a.0.0 a.0.1 a.1, left (view a.0.0) v a.0.1 rest a.2)

keeps_tested : {A : Type 0} (test : A → Bool) (a_at : ReadingOf A) → Keeps a_at → Keeps (tested_at test a_at)
keeps_tested {A} test a_at law bytes v rest e =
    let a = bind_some (a_at bytes) (λ a. cond (test a.0) (Some a) None) (v, rest) e in
    let c = cond_some (test a.0.0) a.0 (v, rest) a.2 in
    omega (arith, law bytes a.0.0 a.0.1 a.1, ap (λ (p : A × List ℕ). length p.1) c.1)

keeps_pair : {A B : Type 0} (a_at : ReadingOf A) (b_at : ReadingOf B) → Keeps a_at → Keeps b_at → Keeps (pair_at a_at b_at)
keeps_pair a_at b_at first second bytes v rest e =
    let a = bind_some (a_at bytes) (λ a. b_at a.1 >>= λ b. Some ((a.0, b.0), b.1)) (v, rest) e in
    let b = bind_some (b_at a.0.1) (λ b. Some ((a.0.0, b.0), b.1)) (v, rest) a.2 in
    omega (arith, first bytes a.0.0 a.0.1 a.1, second a.0.1 b.0.0 b.0.1 b.1, left (a.0.0, b.0.0) v b.0.1 rest b.2)

keeps_number : (bits : ℕ) → Keeps (unsigned_at bits)
keeps_number bits bytes v rest e = omega (arith, number_shorter bits bytes v rest e)

keeps_signed : (bits : ℕ) → Keeps (signed_at bits)
unfolding signed_at
keeps_signed bits [] v rest e = absurd cc
keeps_signed bits (b ∷ bs) v rest e = elim (ltb_tells b 128) [
  | inl (t, small) ↦
      let z = bind_some (last_signed bits b) (λ z. Some (z, bs)) (v, rest) (rw t at e) in
      omega (arith, left z.0 v bs rest z.2)
  | inr (t, large) ↦ elim (ltb_tells 7 bits) [
    | inl (u, many) ↦
        let s = bind_some (signed_at (bits - 7) bs) (λ x. Some (above (b - 128) 128 x.0, x.1)) (v, rest) (rw (t, u) at e) in
        omega (arith, keeps_signed (bits - 7) bs s.0.0 s.0.1 s.1, left (above (b - 128) 128 s.0.0) v s.0.1 rest s.2)
    | inr (u, few) ↦ let f = rw (t, u) at e in absurd cc
  ]
]

keeps_bytes : (n : ℕ) → Keeps (bytes_at n)
keeps_bytes n bytes v rest e = omega (arith, (bytes_length n bytes v rest e).1)

keeps_float : (len : ℕ) → Keeps (float_at len)
unfolding float_at
keeps_float len bytes v rest e =
    let x = bind_some (bytes_at len bytes) (λ x. Some (low_first x.0, x.1)) (v, rest) e in
    omega (arith, keeps_bytes len bytes x.0.0 x.0.1 x.1, left (low_first x.0.0) v x.0.1 rest x.2)

keeps_items : {A : Type 0} (a_at : ReadingOf A) → Keeps a_at → (n : ℕ) → Keeps (items_at a_at n)
unfolding items_at
keeps_items a_at law zero bytes v rest e = omega (arith, left [] v bytes rest e)
keeps_items a_at law (suc n) bytes v rest e =
    let a = bind_some (a_at bytes) (λ first. items_at a_at n first.1 >>= λ others. Some (first.0 ∷ others.0, others.1)) (v, rest) e in
    let b = bind_some (items_at a_at n a.0.1) (λ others. Some (a.0.0 ∷ others.0, others.1)) (v, rest) a.2 in
    omega (arith, law bytes a.0.0 a.0.1 a.1, keeps_items a_at law n a.0.1 b.0.0 b.0.1 b.1, left (a.0.0 ∷ b.0.0) v b.0.1 rest b.2)

keeps_list : {A : Type 0} (a_at : ReadingOf A) → Keeps a_at → Keeps (list_at a_at)
unfolding list_at
keeps_list a_at law bytes v rest e =
    let n = bind_some (unsigned_at 32 bytes) (λ n. items_at a_at n.0 n.1) (v, rest) e in
    omega (arith, keeps_number 32 bytes n.0.0 n.0.1 n.1, keeps_items a_at law n.0.0 n.0.1 v rest n.2)

-- ---- types

keeps_heap_index : Keeps heap_index_at
unfolding heap_index_at
keeps_heap_index bytes v rest e =
    let z = bind_some (signed_at 33 bytes) (λ z. index_of z.0 >>= λ index. Some (index, z.1)) (v, rest) e in
    let i = bind_some (index_of z.0.0) (λ index. Some (index, z.0.1)) (v, rest) z.2 in
    omega (arith, keeps_signed 33 bytes z.0.0 z.0.1 z.1, left i.0 v z.0.1 rest i.2)

keeps_heap_type : Keeps heap_type_at
unfolding heap_type_at
keeps_heap_type [] v rest e = absurd cc
keeps_heap_type (b ∷ bs) v rest e = by_byte (look_up heap_codes b) e
  where
    by_byte : (o : Option AbstractHeapType) → heap_with o (b ∷ bs) bs ≡ Some (v, rest) → length rest ≤ length (b ∷ bs)
    by_byte (Some heap) f = omega (arith, left (Abstract heap) v bs rest f)
    by_byte None f = keeps_seen (λ index. Concrete index) heap_index_at keeps_heap_index (b ∷ bs) v rest f

keeps_val_from : (code : ℕ) → Keeps (val_type_from code)
keeps_val_from code bytes v rest e = elim (eqb_tells code 0x63) [
  | inl (t, same) ↦ keeps_seen (λ heap. Ref true heap) heap_type_at keeps_heap_type bytes v rest (rw t at e)
  | inr (t, other) ↦ elim (eqb_tells code 0x64) [
    | inl (u, same) ↦ keeps_seen (λ heap. Ref false heap) heap_type_at keeps_heap_type bytes v rest (rw (t, u) at e)
    | inr (u, none) ↦
        let x = bind_some (look_up val_type_codes code) (λ type. Some (type, bytes)) (v, rest) (rw (t, u) at e) in
        omega (arith, left x.0 v bytes rest x.2)
  ]
]

keeps_val_type : Keeps val_type_at
unfolding val_type_at
keeps_val_type [] v rest e = absurd cc
keeps_val_type (b ∷ bs) v rest e = omega (arith, keeps_val_from b bs v rest e)

-- ---- immediates

keeps_byte : Keeps byte_at
unfolding byte_at
keeps_byte [] v rest e = absurd cc
keeps_byte (b ∷ bs) v rest e = omega (arith, left b v bs rest e)

keeps_block_index : (features : Features) → Keeps (block_index_at features)
unfolding block_index_at
keeps_block_index features bytes v rest e = by_feature (has features MultiValue) e
  where
    by_feature : (on : Bool) → cond on (seen_at (λ index. Indexed index) heap_index_at bytes) None ≡ Some (v, rest) → length rest ≤ length bytes
    by_feature true f = keeps_seen (λ index. Indexed index) heap_index_at keeps_heap_index bytes v rest f
    by_feature false f = absurd cc

keeps_kept_type : (kept : Kept) → Keeps (kept_type_at kept)
unfolding kept_type_at
keeps_kept_type kept = keeps_tested (is_kept kept) val_type_at keeps_val_type

keeps_block_type : (kept : Kept) (features : Features) → Keeps (block_type_at kept features)
unfolding block_type_at
keeps_block_type kept features [] v rest e = absurd cc
keeps_block_type kept features (b ∷ bs) v rest e = elim (eqb_tells b 0x40) [
  | inl (t, same) ↦ keeps_seen (λ code. Empty) byte_at keeps_byte (b ∷ bs) v rest (rw t at e)
  | inr (t, other) ↦ by_index (begins_index b) (rw t at e)
]
  where
    by_index : (index : Bool) → cond index (block_index_at features (b ∷ bs)) (seen_at (λ type. Value type) (kept_type_at kept) (b ∷ bs)) ≡ Some (v, rest) → length rest ≤ length (b ∷ bs)
    by_index true f = keeps_block_index features (b ∷ bs) v rest f
    by_index false f = keeps_seen (λ type. Value type) (kept_type_at kept) (keeps_kept_type kept) (b ∷ bs) v rest f

keeps_index_with : (several : Bool) → Keeps (index_with_at several)
unfolding index_with_at
keeps_index_with true = keeps_number 32
keeps_index_with false = single
  where
    single : (bytes : List ℕ) (v : ℕ) (rest : List ℕ) → index_with_at false bytes ≡ Some (v, rest) → length rest ≤ length bytes
    single [] v rest e = absurd cc
    single (b ∷ bs) v rest e = elim (eqb_tells b 0) [
      | inl (t, same) ↦ omega (arith, left 0 v bs rest (rw t at e))
      | inr (t, other) ↦ let f = rw t at e in absurd cc
    ]

keeps_alignment : (several : Bool) → Keeps (alignment_at several)
unfolding alignment_at
keeps_alignment several bytes v rest e =
    let flags = bind_some (unsigned_at 32 bytes) (λ flags. alignment_from several flags.0 flags.1) (v, rest) e in
    omega (arith, keeps_number 32 bytes flags.0.0 flags.0.1 flags.1, after flags.0.0 flags.0.1 flags.2)
  where
    in_memory : (flags : ℕ) (bs : List ℕ) (on : Bool) → cond on (seen_at (λ memory. (flags - 2 ^ 6, memory)) (unsigned_at 32) bs) None ≡ Some (v, rest) → length rest ≤ length bs
    in_memory flags bs true f = keeps_seen (λ memory. (flags - 2 ^ 6, memory)) (unsigned_at 32) (keeps_number 32) bs v rest f
    in_memory flags bs false f = absurd cc

    of_several : (flags : ℕ) (bs : List ℕ) (on : Bool) → cond on (cond (ltb flags (2 ^ 7)) (seen_at (λ memory. (flags - 2 ^ 6, memory)) (unsigned_at 32) bs) None) None ≡ Some (v, rest) → length rest ≤ length bs
    of_several flags bs true f = in_memory flags bs (ltb flags (2 ^ 7)) f
    of_several flags bs false f = absurd cc

    after : (flags : ℕ) (bs : List ℕ) → alignment_from several flags bs ≡ Some (v, rest) → length rest ≤ length bs
    after flags bs f = elim (ltb_tells flags (2 ^ 6)) [
      | inl (t, small) ↦ omega (arith, left (flags, 0) v bs rest (rw t at f))
      | inr (t, large) ↦ of_several flags bs several (rw t at f)
    ]

keeps_argument : (features : Features) → Keeps (memory_argument_at features)
unfolding memory_argument_at
keeps_argument features = keeps_seen _ _ (keeps_pair (alignment_at (has features MultiMemory)) (unsigned_at (offset_bits features)) (keeps_alignment (has features MultiMemory)) (keeps_number (offset_bits features)))

keeps_types : (kept : Kept) → Keeps (types_at kept)
unfolding types_at
keeps_types kept = keeps_tested (are_kept kept) (list_at val_type_at) (keeps_list val_type_at keeps_val_type)

keeps_labels : Keeps labels_at
unfolding labels_at
keeps_labels = keeps_pair (list_at (unsigned_at 32)) (unsigned_at 32) (keeps_list (unsigned_at 32) (keeps_number 32)) (keeps_number 32)

-- ---- operators

keeps_shape : (kept : Kept) (features : Features) (shape : Shape) → Keeps (shape_at kept features shape)
keeps_shape kept features (Bare operator) = λ bytes v rest e. omega (arith, left operator v bytes rest e)
keeps_shape kept features (Number f) = keeps_seen f (unsigned_at 32) (keeps_number 32)
keeps_shape kept features (Numbers f) = keeps_seen (λ x. f x.0 x.1) (pair_at (unsigned_at 32) (unsigned_at 32)) (keeps_pair _ _ (keeps_number 32) (keeps_number 32))
keeps_shape kept features (OfTable f) =
    keeps_seen (λ x. f x.0 x.1) (pair_at (unsigned_at 32) (index_with_at (has features ReferenceTypes))) (keeps_pair _ _ (keeps_number 32) (keeps_index_with (has features ReferenceTypes)))
keeps_shape kept features (OfMemory f) = keeps_seen f (index_with_at (has features MultiMemory)) (keeps_index_with (has features MultiMemory))
keeps_shape kept features (Access f) = keeps_seen f (memory_argument_at features) (keeps_argument features)
keeps_shape kept features (OfBlock f) = keeps_seen f (block_type_at kept features) (keeps_block_type kept features)
keeps_shape kept features (OfHeap f) = keeps_seen f heap_type_at keeps_heap_type
keeps_shape kept features (OfTypes f) = keeps_seen f (types_at kept) (keeps_types kept)
keeps_shape kept features (Labels f) = keeps_seen (λ x. f x.0 x.1) labels_at keeps_labels
keeps_shape kept features (Signed bits f) = keeps_seen f (signed_at bits) (keeps_signed bits)
keeps_shape kept features (Float len f) = keeps_seen f (float_at len) (keeps_float len)
keeps_shape kept features (Sixteen f) = keeps_seen f (bytes_at 16) (keeps_bytes 16)

keeps_code : (b : ℕ) → Keeps (code_from b)
keeps_code b bytes v rest e = by_prefix (is_prefix b) e
  where
    by_prefix : (on : Bool) → cond on (seen_at (λ n. Prefixed b n) (unsigned_at 32) bytes) (Some (Byte b, bytes)) ≡ Some (v, rest) → length rest ≤ length bytes
    by_prefix true f = keeps_seen (λ n. Prefixed b n) (unsigned_at 32) (keeps_number 32) bytes v rest f
    by_prefix false f = omega (arith, left (Byte b) v bytes rest f)

keeps_shaped : (kept : Kept) (features : Features) (shape : Option Shape) → Keeps (shaped_at kept features shape)
keeps_shaped kept features None = λ bytes v rest e. absurd cc
keeps_shaped kept features (Some shape) = keeps_shape kept features shape

pub operator_shorter : (features : Features) (bytes : List ℕ) (v : Operator ℕ) (rest : List ℕ) → operator_at features bytes ≡ Some (v, rest) → length rest < length bytes
unfolding kept_operator_at code_at
operator_shorter features [] v rest e = absurd cc
operator_shorter features (b ∷ bs) v rest e =
    let c = bind_some (code_from b bs) (λ code. coded_at All features code.0 code.1) (v, rest) e in
    omega (arith, keeps_code b bs c.0.0 c.0.1 c.1, keeps_shaped All features (shape_of c.0.0) c.0.1 v rest c.2)
