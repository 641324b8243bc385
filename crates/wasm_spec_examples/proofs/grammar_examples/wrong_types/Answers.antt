use Rattle.std.proofs.Common.{◌≡◌, ℕ, true, false, is_some, List, [], ◌∷◌, inl, inr, arith, sym, subst, ◌∙◌}
use Rattle.std.proofs.lemmas.Int.{ints}
use Rattle.wasm_spec.specs.TypeGrammar.{IsHeapIndex, IsHeapType, IsValType, IsTableType, limits_flags}
use Rattle.wasm_spec.specs.Types.{HeapType, Abstract, Concrete, ValType, I32, I64, F32, F64, V128, Ref, TableType}
use Rattle.wasm_spec.proofs.TypeBytes.{small_flags}
use Rattle.wasm_spec.proofs.WrongEncodings.{heads, tails, after_reference, table_flags}
use Rattle.wasm_spec_examples.proofs.grammar_examples.wrong_types.Goals as goal

no_heap : (heap : HeapType ℕ) → ¬ (IsHeapType (0xf0 ∷ 0x7f ∷ []) heap)
no_heap (Abstract heap) h = absurd cc
no_heap (Concrete index) h = elim h.5 [ inl f ↦ omega (arith, f.0) | inr f ↦ omega (arith, ints, h.4, f.3) ]

no_value : (type : ValType ℕ) → ¬ (IsValType (0x63 ∷ 0xf0 ∷ 0x7f ∷ []) type)
no_value I32 h = absurd cc
no_value I64 h = absurd cc
no_value F32 h = absurd cc
no_value F64 h = absurd cc
no_value V128 h = absurd cc
no_value (Ref false heap) h = omega (arith, heads 0x63 0x64 (0xf0 ∷ 0x7f ∷ []) h.0 h.1)
no_value (Ref true heap) (inl h) = no_heap heap (subst (λ l. IsHeapType l heap) (sym (tails 0x63 0x63 (0xf0 ∷ 0x7f ∷ []) h.0 h.1)) h.2)
no_value (Ref true (Abstract heap)) (inr h) = absurd cc
no_value (Ref true (Concrete index)) (inr h) = absurd h

no_index : (index : ℕ) → ¬ (IsHeapIndex (0x7f ∷ []) index)
no_index index (inl h) = omega (arith, h.0)
no_index index (inr h) = omega (arith, ints, h.3)

-- the flags of a table after 70
flags_of : (rest : List ℕ) (b : ℕ) (type : TableType ℕ) → IsTableType (0x70 ∷ b ∷ rest) type
    → (limits_flags type.limits ≡ b) × (type.limits.shared ≡ false) × (is_some type.limits.page_size_log2 ≡ false)
flags_of rest b type h =
    let p = after_reference type.element_type.nullable h.0 h.1 (b ∷ rest) type.element_type.heap_type h.3 h.2 in
    (heads _ b _ rest (sym h.4.0.1 ∙ p), h.4.1, h.4.2)

pub returns : goal.returns
returns c = record {
  padded_abstract = no_heap;
  padded_reference = no_value;
  negative_index = no_index;
  shared_table = λ rest type h.
      let f = flags_of rest 0x02 type h in
      (table_flags (is_some type.limits.maximum) type.limits.shared type.limits.is_64 (is_some type.limits.page_size_log2) f.1 f.2).0 f.0;
  table_with_pages = λ rest type h.
      let f = flags_of rest 0x08 type h in
      (table_flags (is_some type.limits.maximum) type.limits.shared type.limits.is_64 (is_some type.limits.page_size_log2) f.1 f.2).1 f.0;
  other_flags = λ rest type h. omega (arith, small_flags type, heads 0x10 (limits_flags type) rest h.0 h.1);
  padded_flags = λ rest type h. omega (arith, small_flags type, heads 0x80 (limits_flags type) rest h.0 h.1);
  other_tag = λ rest index h. omega (arith, heads 0x01 0x00 rest h.0 h.1);
}
