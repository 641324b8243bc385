-- Encodings of value types.
use Rattle.std.proofs.Common.{ℕ, pos, ◌≤◌, Bool, true, false, List, [], ◌∷◌, length, refl, ap, arith, inl, inr}
use Rattle.std.specs.List.{AllByRecursion}
use Rattle.wasm_spec.specs.Bytes.{AreBytes}
use Rattle.wasm_spec.specs.Shortest.{signed_encoding}
use Rattle.wasm_spec.specs.SmallIndexes.{IsSmallIndex, IsSmallHeap, IsSmallValue}
use Rattle.wasm_spec.specs.TypeEncodings.{heap_encoding, ref_encoding, val_encoding}
use Rattle.wasm_spec.specs.TypeGrammar.{heap_code, IsHeapType, IsReference, IsValType}
use Rattle.wasm_spec.specs.TypeReferences.{heap_refs, val_refs}
use Rattle.wasm_spec.specs.Types.{HeapType, Abstract, Concrete, ValType, I32, I64, F32, F64, V128, Ref}
use Rattle.wasm_spec.proofs.NumberLaws.{positive_spelled}
use Rattle.wasm_spec.proofs.TypeBytes.{of_val_type}
use Rattle.wasm_gen_sessions.proofs.Numbers.{signed_length}

-- ---- references below 2 ^ 32

heap_small : (heap : HeapType ℕ) → AllByRecursion IsSmallIndex (heap_refs heap) → IsSmallHeap heap
heap_small (Abstract heap) h = tt
heap_small (Concrete index) h = h.0

pub value_small : (type : ValType ℕ) → AllByRecursion IsSmallIndex (val_refs type) → IsSmallValue type
value_small I32 h = tt
value_small I64 h = tt
value_small F32 h = tt
value_small F64 h = tt
value_small V128 h = tt
value_small (Ref nullable heap) h = heap_small heap h

-- ---- what is written

pub value_is : (type : ValType ℕ) → IsSmallValue type → IsValType (val_encoding type) type
unfolding val_encoding ref_encoding heap_encoding
value_is I32 h = refl
value_is I64 h = refl
value_is F32 h = refl
value_is F64 h = refl
value_is V128 h = refl
value_is (Ref true (Abstract heap)) h = inr refl
value_is (Ref true (Concrete index)) h = inl (signed_encoding (pos index), refl, positive_spelled 33 index h)
value_is (Ref false (Abstract heap)) h = (heap_code heap ∷ [], refl, refl)
value_is (Ref false (Concrete index)) h = (signed_encoding (pos index), refl, positive_spelled 33 index h)

pub value_bytes : (type : ValType ℕ) → IsSmallValue type → AreBytes (val_encoding type)
value_bytes type h = of_val_type (val_encoding type) type (value_is type h)

-- ---- lengths

heap_length : (bytes : List ℕ) (heap : HeapType ℕ) → IsHeapType bytes heap → length bytes ≤ 5
heap_length bytes (Abstract heap) h = omega (arith, ap length h)
heap_length bytes (Concrete index) h = signed_length bytes (pos index) h

reference_length : (nullable : Bool) (bytes : List ℕ) (heap : HeapType ℕ) → IsReference nullable bytes heap → length bytes ≤ 6
reference_length true bytes heap (inl m) = omega (arith, ap length m.1, heap_length m.0 heap m.2)
reference_length true bytes (Abstract heap) (inr e) = omega (arith, ap length e)
reference_length true bytes (Concrete index) (inr e) = absurd e
reference_length false bytes heap m = omega (arith, ap length m.1, heap_length m.0 heap m.2)

-- each encoding of a value type is at most six bytes, also one that is padded
pub value_length : (bytes : List ℕ) (type : ValType ℕ) → IsValType bytes type → length bytes ≤ 6
value_length bytes I32 h = omega (arith, ap length h)
value_length bytes I64 h = omega (arith, ap length h)
value_length bytes F32 h = omega (arith, ap length h)
value_length bytes F64 h = omega (arith, ap length h)
value_length bytes V128 h = omega (arith, ap length h)
value_length bytes (Ref nullable heap) h = reference_length nullable bytes heap h

pub encoding_length : (type : ValType ℕ) → IsSmallValue type → length (val_encoding type) ≤ 6
encoding_length type h = value_length (val_encoding type) type (value_is type h)
