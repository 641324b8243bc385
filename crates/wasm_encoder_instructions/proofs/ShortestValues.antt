-- What is written of heap types and of value types is their shortest encoding.
use Rattle.std.proofs.Common.{ℕ, pos, ◌^◌, ◌<◌, ◌≤◌, true, false, List, length, ap, refl, arith, inl, inr}
use Rattle.std.specs.List.{AllByRecursion}
use Rattle.wasm_spec.specs.Bytes.{IsShortest}
use Rattle.wasm_spec.specs.Shortest.{signed_encoding, list_encoding}
use Rattle.wasm_spec.specs.SmallIndexes.{IsSmallHeap, IsSmallValue}
use Rattle.wasm_spec.specs.TypeEncodings.{heap_encoding, ref_encoding, val_encoding}
use Rattle.wasm_spec.specs.TypeGrammar.{IsHeapIndex, IsHeapType, IsReference, IsValType, IsResultType}
use Rattle.wasm_spec.specs.Types.{HeapType, Abstract, Concrete, ValType, I32, I64, F32, F64, V128, Ref}
use Rattle.wasm_spec.proofs.NumberLaws.{shortest_positive}
use Rattle.wasm_spec.proofs.ShortestForms.{marked, list, HasSome, WritesShortest}
use Rattle.std.specs.Prelude.{Bool}

pub index : (n : ℕ) → n < 2 ^ 32 → IsShortest IsHeapIndex (signed_encoding (pos n)) n
index n small =
    let s = shortest_positive 33 n small in
    record { encodes = s.encodes; shortest = λ other h. s.shortest other h }

pub heap : (type : HeapType ℕ) → IsSmallHeap type → IsShortest IsHeapType (heap_encoding type) type
unfolding heap_encoding
heap (Abstract h) small = record { encodes = refl; shortest = λ other e. omega (arith, ap length e) }
heap (Concrete n) small = let s = index n small in record { encodes = s.encodes; shortest = λ other h. s.shortest other h }

-- an encoding of a nullable reference to an abstract heap type has a byte
some_reference : (other : List ℕ) (h : HeapType ℕ) → IsReference true other h → 1 ≤ length other
some_reference other (Abstract a) (inl m) = omega (arith, ap length m.1)
some_reference other (Abstract a) (inr e) = omega (arith, ap length e)
some_reference other (Concrete n) (inl m) = omega (arith, ap length m.1)
some_reference other (Concrete n) (inr e) = absurd e

reference : (nullable : Bool) (type : HeapType ℕ) → IsSmallHeap type → IsShortest (IsReference nullable) (ref_encoding nullable type) type
unfolding ref_encoding heap_encoding
reference true (Abstract a) small = record { encodes = inr refl; shortest = λ other h. some_reference other (Abstract a) h }
reference true (Concrete n) small =
    let m = marked 0x63 IsHeapType (heap_encoding (Concrete n)) (Concrete n) (heap (Concrete n) small) in
    record { encodes = inl m.encodes; shortest = λ other h. elim h [ inl k ↦ m.shortest other k | inr e ↦ absurd e ] }
reference false type small = marked 0x64 IsHeapType (heap_encoding type) type (heap type small)

pub value : (type : ValType ℕ) → IsSmallValue type → IsShortest IsValType (val_encoding type) type
unfolding val_encoding
value I32 small = record { encodes = refl; shortest = λ other h. omega (arith, ap length h) }
value I64 small = record { encodes = refl; shortest = λ other h. omega (arith, ap length h) }
value F32 small = record { encodes = refl; shortest = λ other h. omega (arith, ap length h) }
value F64 small = record { encodes = refl; shortest = λ other h. omega (arith, ap length h) }
value V128 small = record { encodes = refl; shortest = λ other h. omega (arith, ap length h) }
value (Ref nullable type) small = let s = reference nullable type small in record { encodes = s.encodes; shortest = λ other h. s.shortest other h }

some_ref : (nullable : Bool) (type : HeapType ℕ) → 0 < length (ref_encoding nullable type)
unfolding ref_encoding heap_encoding
some_ref true (Abstract a) = omega arith
some_ref true (Concrete n) = omega arith
some_ref false type = omega arith

some_value : HasSome val_encoding
unfolding val_encoding
some_value I32 = omega arith
some_value I64 = omega arith
some_value F32 = omega arith
some_value F64 = omega arith
some_value V128 = omega arith
some_value (Ref nullable type) = some_ref nullable type

pub values : WritesShortest IsResultType (list_encoding val_encoding) (AllByRecursion IsSmallValue)
values types small short = list IsValType val_encoding IsSmallValue some_value (λ type h fits. value type h) types small short
