-- What is written of the types of what is imported is their shortest encoding.
use Rattle.std.proofs.Common.{ℕ, ◌≤◌, Bool, true, false, if◌then◌else◌, List, [], ◌∷◌, ◌++◌, length, Option, Some, None, refl, ap, arith, inl, inr}
use Rattle.wasm_spec.specs.Bytes.{IsU32, IsU64, IsUnsigned, IsOptional, IsPair, IsShortest}
use Rattle.wasm_spec.specs.Shortest.{unsigned_encoding}
use Rattle.wasm_spec.specs.SmallIndexes.{IsSmallIndex, IsSmallHeap, IsSmallValue}
use Rattle.wasm_spec.specs.TypeEncodings.{heap_encoding, ref_encoding, val_encoding}
use Rattle.wasm_spec.specs.TypeGrammar.{IsHeapType, IsReference, IsRefType, IsValType, IsMutability, limits_flags, IsLimits, IsMemoryType, IsTableLimits, IsTableType, IsGlobalType, IsTagType, kind_code, IsOfKind, IsExternalType}
use Rattle.wasm_spec.specs.Types.{HeapType, Abstract, Concrete, RefType, ValType, I32, I64, F32, F64, V128, Ref, Limits, TableType, GlobalType, ExternalType, FuncExternal, TableExternal, MemoryExternal, GlobalExternal, TagExternal, kind_of}
use Rattle.wasm_spec.proofs.NumberLaws.{shortest_unsigned, shortest_positive}
use Rattle.wasm_spec.proofs.ShortestForms.{marked, pair}
use Rattle.wasm_encoder_sections.specs.ItemEncodings.{optional_encoding, limits_encoding, table_type_encoding, global_type_encoding, tag_type_encoding, of_kind_encoding, external_type_encoding}
use Rattle.wasm_encoder_sections.specs.SmallItems.{HasBits, IsSmallLimits, IsSmallTable, IsSmallGlobal, IsSmallExternal}

-- ---- references and values

heap : (type : HeapType ℕ) → IsSmallHeap type → IsShortest IsHeapType (heap_encoding type) type
unfolding heap_encoding
heap (Abstract h) small = record { encodes = refl; shortest = λ other e. omega (arith, ap length e) }
heap (Concrete n) small = let s = shortest_positive 33 n small in record { encodes = s.encodes; shortest = λ other h. s.shortest other h }

-- an encoding of a nullable reference to an abstract heap type has a byte
some_reference : (other : List ℕ) (h : HeapType ℕ) → IsReference true other h → 1 ≤ length other
some_reference other (Abstract a) (inl m) = omega (arith, ap length m.1)
some_reference other (Abstract a) (inr e) = omega (arith, ap length e)
some_reference other (Concrete n) (inl m) = omega (arith, ap length m.1)
some_reference other (Concrete n) (inr e) = absurd e

reference : (nullable : Bool) (type : HeapType ℕ) → IsSmallHeap type → IsShortest (IsReference nullable) (ref_encoding nullable type) type
unfolding ref_encoding heap_encoding
reference true (Abstract a) small = record { encodes = inr refl; shortest = λ other h. some_reference other (Abstract a) h }
reference true (Concrete n) small =
    let m = marked 0x63 IsHeapType (heap_encoding (Concrete n)) (Concrete n) (heap (Concrete n) small) in
    record { encodes = inl m.encodes; shortest = λ other h. elim h [ inl k ↦ m.shortest other k | inr e ↦ absurd e ] }
reference false type small = marked 0x64 IsHeapType (heap_encoding type) type (heap type small)

value : (type : ValType ℕ) → IsSmallValue type → IsShortest IsValType (val_encoding type) type
unfolding val_encoding
value I32 small = record { encodes = refl; shortest = λ other h. omega (arith, ap length h) }
value I64 small = record { encodes = refl; shortest = λ other h. omega (arith, ap length h) }
value F32 small = record { encodes = refl; shortest = λ other h. omega (arith, ap length h) }
value F64 small = record { encodes = refl; shortest = λ other h. omega (arith, ap length h) }
value V128 small = record { encodes = refl; shortest = λ other h. omega (arith, ap length h) }
value (Ref nullable type) small = let s = reference nullable type small in record { encodes = s.encodes; shortest = λ other h. s.shortest other h }

mutability : (mutable : Bool) → IsShortest IsMutability ((if mutable then 0x01 else 0x00) ∷ []) mutable
mutability false = record { encodes = refl; shortest = λ other h. omega (arith, ap length h) }
mutability true = record { encodes = refl; shortest = λ other h. omega (arith, ap length h) }

-- ---- limits, memories, tables, globals and tags

optional : (bits : ℕ) (n : Option ℕ) → HasBits bits n → IsShortest (IsOptional (IsUnsigned bits)) (optional_encoding n) n
unfolding optional_encoding
optional bits None small = record { encodes = refl; shortest = λ other h. omega arith }
optional bits (Some n) small = let s = shortest_unsigned bits n small in record { encodes = s.encodes; shortest = λ other h. s.shortest other h }

pub limits : (type : Limits) → IsSmallLimits type → IsShortest IsLimits (limits_encoding type) type
unfolding limits_encoding
limits type small =
    let bounds = pair (IsOptional IsU64) (IsOptional IsU32) (optional_encoding type.maximum) (optional_encoding type.page_size_log2) type.maximum type.page_size_log2
    (optional 64 type.maximum small.1) (optional 32 type.page_size_log2 small.2) in
    let parts = pair IsU64 (IsPair (IsOptional IsU64) (IsOptional IsU32)) (unsigned_encoding type.minimum) (optional_encoding type.maximum ++ optional_encoding type.page_size_log2)
    type.minimum (type.maximum, type.page_size_log2) (shortest_unsigned 64 type.minimum small.0) bounds in
    let s = marked (limits_flags type) (IsPair IsU64 (IsPair (IsOptional IsU64) (IsOptional IsU32)))
    (unsigned_encoding type.minimum ++ (optional_encoding type.maximum ++ optional_encoding type.page_size_log2)) (type.minimum, (type.maximum, type.page_size_log2)) parts in
    record { encodes = s.encodes; shortest = λ other h. s.shortest other h }

pub memory : (type : Limits) → IsSmallLimits type → IsShortest IsMemoryType (limits_encoding type) type
memory type small = let s = limits type small in record { encodes = s.encodes; shortest = λ other h. s.shortest other h }

element : (type : RefType ℕ) → IsSmallHeap type.heap_type → IsShortest IsRefType (ref_encoding type.nullable type.heap_type) type
element type small = let s = reference type.nullable type.heap_type small in record { encodes = s.encodes; shortest = λ other h. s.shortest other h }

pub table : (type : TableType ℕ) → IsSmallTable type → IsShortest IsTableType (table_type_encoding type) type
unfolding table_type_encoding
table type small =
    let bounds = limits type.limits small.1 in
    let own : IsShortest IsTableLimits (limits_encoding type.limits) type.limits
    = record { encodes = (bounds.encodes, small.2, small.3); shortest = λ other h. bounds.shortest other h.0 } in
    let s = pair IsRefType IsTableLimits (ref_encoding type.element_type.nullable type.element_type.heap_type) (limits_encoding type.limits) type.element_type type.limits
    (element type.element_type small.0) own in
    record { encodes = s.encodes; shortest = λ other h. s.shortest other h }

pub global : (type : GlobalType ℕ) → IsSmallGlobal type → IsShortest IsGlobalType (global_type_encoding type) type
unfolding global_type_encoding
global type small =
    let s = pair IsValType IsMutability (val_encoding type.value_type) ((if type.mutable then 0x01 else 0x00) ∷ []) type.value_type type.mutable
    (value type.value_type small) (mutability type.mutable) in
    record { encodes = s.encodes; shortest = λ other h. s.shortest other h }

pub tag : (function : ℕ) → IsSmallIndex function → IsShortest IsTagType (tag_type_encoding function) function
unfolding tag_type_encoding
tag function small = marked 0x00 IsU32 (unsigned_encoding function) function (shortest_unsigned 32 function small)

-- ---- what is imported

of_kind : (type : ExternalType ℕ) → IsSmallExternal type → IsShortest IsOfKind (of_kind_encoding type) type
unfolding of_kind_encoding
of_kind (FuncExternal function) small = let s = shortest_unsigned 32 function small in record { encodes = s.encodes; shortest = λ other h. s.shortest other h }
of_kind (TableExternal type) small = let s = table type small in record { encodes = s.encodes; shortest = λ other h. s.shortest other h }
of_kind (MemoryExternal type) small = let s = memory type small in record { encodes = s.encodes; shortest = λ other h. s.shortest other h }
of_kind (GlobalExternal type) small = let s = global type small in record { encodes = s.encodes; shortest = λ other h. s.shortest other h }
of_kind (TagExternal function) small = let s = tag function small in record { encodes = s.encodes; shortest = λ other h. s.shortest other h }

pub external : (type : ExternalType ℕ) → IsSmallExternal type → IsShortest IsExternalType (external_type_encoding type) type
unfolding external_type_encoding
external type small =
    let s = marked (kind_code (kind_of type)) IsOfKind (of_kind_encoding type) type (of_kind type small) in
    record { encodes = s.encodes; shortest = λ other h. s.shortest other h }
