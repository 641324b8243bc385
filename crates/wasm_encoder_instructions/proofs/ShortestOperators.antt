-- What is written of operators is their shortest encoding.
use Rattle.std.proofs.Common.{◌≡◌, ◌<◌, ◌≤◌, ◌+◌, ◌^◌, ℕ, ℤ, pos, negsuc, Bool, true, false, not, ◌&&◌, ltb, if◌then◌else◌, List, [], ◌∷◌, ◌++◌, length, refl, ap, inl, inr, arith, length-append}
use Rattle.std.proofs.lemmas.Bool.{ltb-true}
use Rattle.std.proofs.lemmas.Bool.Decides.{eqb_tells}
use Rattle.std.proofs.lemmas.List.Elements.{All-contains}
use Rattle.std.proofs.lemmas.List.Sums.{AllPass-from_list_all}
use Rattle.std.proofs.lemmas.Nat.{from_le_bytes-to_le_bytes_4, from_le_bytes-to_le_bytes_8}
use Rattle.std.specs.Int.{w32, w64, to_le_bytes}
use Rattle.std.specs.List.{AllByRecursion, Contains, flat_map}
use Rattle.wasm_bodies.specs.OperatorGrammar.{code_of, is_prefix, IsCode, IsBlockType, IsIndexWith, IsAlignment, IsOffset, IsMemoryArgument, AreImmediates, IsOperator, IsOperators}
use Rattle.wasm_bodies.specs.OperatorRows.{OperatorCode, Byte, Prefixed, ScalarRow, AccessRow, scalar_rows, load_rows, store_rows}
use Rattle.wasm_bodies.specs.Operators.{BlockType, Empty, Value, Indexed, MemoryArgument, Operator, Unreachable, Nop, Block, Loop, If, Br, BrIf, BrTable, Call, CallIndirect, ReturnCall, ReturnCallIndirect, CallRef, ReturnCallRef, BrOnNull, BrOnNonNull, SelectTyped, LocalGet, LocalSet, LocalTee, GlobalGet, GlobalSet, I32Const, I64Const, F32Const, F64Const, V128Const, Scalar, Load, Store, MemorySize, MemoryGrow, MemoryFill, MemoryCopy, MemoryInit, DataDrop, TableGet, TableSet, TableSize, TableGrow, TableFill, TableCopy, TableInit, ElemDrop, RefNull, RefFunc, StructNew, StructNewDefault, ArrayNew, ArrayNewDefault, ArrayNewFixed, Else, End, Return, Drop, Select, RefIsNull, RefEq, RefAsNonNull, RefI31, AnyConvertExtern, ExternConvertAny}
use Rattle.wasm_encoder_instructions.proofs.LeastForms.{IsLeast, least, nothing, both, besides}
use Rattle.wasm_encoder_instructions.proofs.ShortestValues.{heap, value, values}
use Rattle.wasm_encoder_instructions.specs.OperatorEncodings.{code_encoding, block_encoding, alignment_encoding, memory_argument_encoding, indexes_encoding, labels_encoding, immediates_encoding, operator_encoding}
use Rattle.wasm_encoder_instructions.specs.SmallOperators.{HasWholeImmediates, IsSmallBlock, IsSmallArgument, IsSmallSigned, AreSmall, IsSmallOperator}
use Rattle.wasm_spec.proofs.NumberLaws.{shortest_unsigned, shortest_positive, shortest_negative}
use Rattle.wasm_spec.proofs.ShortestForms.{marked, list}
use Rattle.wasm_spec.proofs.UnsignedEncodings.{some_bytes, unsigned_length_last}
use Rattle.wasm_spec.specs.Bytes.{AreBytes, IsUnsigned, IsU32, IsSigned, IsF32, IsF64, IsBytesOf, IsPair, IsList, IsShortest}
use Rattle.wasm_spec.specs.Features.{Features, has, ReferenceTypes, MultiMemory, Memory64}
use Rattle.wasm_spec.specs.Shortest.{unsigned_encoding, signed_encoding, list_encoding}
use Rattle.wasm_spec.specs.SmallIndexes.{IsSmallIndex, IsSmallValue}
use Rattle.wasm_spec.specs.TypeEncodings.{heap_encoding, val_encoding}
use Rattle.wasm_spec.specs.TypeGrammar.{IsHeapType, IsValType}
use Rattle.wasm_spec.specs.Types.{ValType}

-- ---- numbers and types

number : (n : ℕ) → n < 2 ^ 32 → IsLeast (λ other. IsU32 other n) (unsigned_encoding n)
number n small = least IsU32 (unsigned_encoding n) n (let s = shortest_unsigned 32 n small in record { encodes = s.encodes; shortest = λ other h. s.shortest other h })

two : (first second : ℕ) → AreSmall first second → IsLeast (λ other. IsPair IsU32 IsU32 other (first, second)) (indexes_encoding first second)
unfolding indexes_encoding
two first second small = both (λ other. IsU32 other first) (λ other. IsU32 other second) (unsigned_encoding first) (unsigned_encoding second) (number first small.0) (number second small.1)

signed : (bits : ℕ) (z : ℤ) → IsSmallSigned bits z → IsLeast (λ other. IsSigned bits other z) (signed_encoding z)
signed bits (pos n) small = least (IsSigned bits) (signed_encoding (pos n)) (pos n) (shortest_positive bits n small)
signed bits (negsuc n) small = least (IsSigned bits) (signed_encoding (negsuc n)) (negsuc n) (shortest_negative bits n small)

float : (bits : ℕ) → bits < 2 ^ 32 → IsLeast (λ other. IsF32 other bits) (to_le_bytes w32 bits)
float bits small = (((omega arith, (omega arith, (omega arith, (omega arith, tt)))), refl, omega (arith, from_le_bytes-to_le_bytes_4 bits small)), λ other h. omega (arith, h.1))

double : (bits : ℕ) → bits < 2 ^ 64 → IsLeast (λ other. IsF64 other bits) (to_le_bytes w64 bits)
double bits small =
    (((omega arith, (omega arith, (omega arith, (omega arith, (omega arith, (omega arith, (omega arith, (omega arith, tt)))))))), refl, omega (arith, from_le_bytes-to_le_bytes_8 bits small)), λ other h. omega (arith, h.1))

vector : (bytes : List ℕ) → AreBytes bytes × (length bytes ≡ 16) → IsLeast (λ other. IsBytesOf 16 other bytes) bytes
vector bytes small = (((small.0, refl), small.1), λ other h. omega (arith, ap length h.0.1))

-- an index that is a number under a flag
with_index_in : (flag : Bool) → flag ≡ true → (index : ℕ) → index < 2 ^ 32 → IsLeast (λ other. IsIndexWith flag other index) (unsigned_encoding index)
with_index_in true on index small = number index small
with_index_in false on index small = absurd cc

with_index : (flag : Bool) → flag ≡ true → (index : ℕ) → index < 2 ^ 32 → IsLeast (λ other. IsIndexWith flag other index) (unsigned_encoding index)
with_index flag on index small = with_index_in flag on index small

with_table : (features : Features) → HasWholeImmediates features → (type table : ℕ) → AreSmall type table
    → IsLeast (λ other. IsPair IsU32 (IsIndexWith (has features ReferenceTypes)) other (type, table)) (indexes_encoding type table)
unfolding indexes_encoding
with_table features f type table small =
    both (λ other. IsU32 other type) (λ other. IsIndexWith (has features ReferenceTypes) other table) (unsigned_encoding type) (unsigned_encoding table)
    (number type small.0) (with_index (has features ReferenceTypes) f.reference_types table small.1)

block : (features : Features) → HasWholeImmediates features → (type : BlockType ℕ) → IsSmallBlock type → IsLeast (λ other. IsBlockType features other type) (block_encoding type)
unfolding block_encoding
block features f Empty small = (refl, λ other h. omega (arith, ap length h))
block features f (Value type) small = least IsValType (val_encoding type) type (value type small)
block features f (Indexed index) small =
    let s = shortest_positive 33 index small in ((f.multi_value, s.encodes), λ other h. s.shortest other h.1)

-- ---- lists

index_shortest : (n : ℕ) → IsSmallIndex n → IsShortest IsU32 (unsigned_encoding n) n
index_shortest n small = let s = shortest_unsigned 32 n small in record { encodes = s.encodes; shortest = λ other h. s.shortest other h }

some_labels : (labels : List ℕ) (last : ℕ) → AllByRecursion IsSmallIndex labels → IsSmallIndex last → length (labels_encoding labels last) < 2 ^ 32
    → IsLeast (λ other. IsPair (IsList IsU32) IsU32 other (labels, last)) (labels_encoding labels last)
unfolding labels_encoding
some_labels labels last small also short =
    both (λ other. IsList IsU32 other labels) (λ other. IsU32 other last) (list_encoding unsigned_encoding labels) (unsigned_encoding last)
    (least (IsList IsU32) (list_encoding unsigned_encoding labels) labels
    (list IsU32 unsigned_encoding IsSmallIndex (λ n. omega (arith, some_bytes n)) (λ n fits few. index_shortest n fits) labels small
    (omega (arith, short, length-append (list_encoding unsigned_encoding labels) (unsigned_encoding last)))))
    (number last also)

some_types : (types : List (ValType ℕ)) → AllByRecursion IsSmallValue types → length (list_encoding val_encoding types) < 2 ^ 32
    → IsLeast (λ other. IsList IsValType other types) (list_encoding val_encoding types)
some_types types small short = least (IsList IsValType) (list_encoding val_encoding types) types (values types small short)

-- ---- memory arguments

some_number : (bytes : List ℕ) (n : ℕ) → IsU32 bytes n → 1 ≤ length bytes
some_number [] n h = absurd h
some_number (b ∷ bs) n h = omega arith

first_memory : (features : Features) (exponent memory : ℕ) → exponent < 2 ^ 6 → memory ≡ 0 → IsLeast (λ other. IsAlignment features other (exponent, memory)) (unsigned_encoding exponent)
first_memory features exponent memory low first =
    let n = number exponent (omega (arith, low)) in (
      (low, inl (n.0, first)),
      λ other h. elim h.1 [
        | inl a ↦ n.1 other a.0
        | inr b ↦ omega (arith, unsigned_length_last exponent (omega (arith, low)), ap length b.1.2, length-append b.1.0 b.1.1, some_number b.1.0 (exponent + 2 ^ 6) b.1.3)
      ],
    )

other_memory : (features : Features) → HasWholeImmediates features → (exponent memory : ℕ) → exponent < 2 ^ 6 → memory < 2 ^ 32 → ¬ (memory ≡ 0)
    → IsLeast (λ other. IsAlignment features other (exponent, memory)) (unsigned_encoding (exponent + 2 ^ 6) ++ unsigned_encoding memory)
other_memory features f exponent memory low small not_first =
    let n = both (λ other. IsU32 other (exponent + 2 ^ 6)) (λ other. IsU32 other memory) (unsigned_encoding (exponent + 2 ^ 6)) (unsigned_encoding memory)
    (number (exponent + 2 ^ 6) (omega (arith, low))) (number memory small) in
    ((low, inr (f.multi_memory, n.0)), λ other h. elim h.1 [ inl a ↦ absurd (not_first a.1) | inr b ↦ n.1 other b.1 ])

alignment : (features : Features) → HasWholeImmediates features → (exponent memory : ℕ) → exponent < 2 ^ 6 → memory < 2 ^ 32
    → IsLeast (λ other. IsAlignment features other (exponent, memory)) (alignment_encoding exponent memory)
unfolding alignment_encoding
alignment features f exponent memory low small = elim (eqb_tells memory 0) [
  | inl (t, first) ↦ rw t (first_memory features exponent memory low first)
  | inr (t, not_first) ↦ rw t (other_memory features f exponent memory low small not_first)
]

offset_in : (flag : Bool) → flag ≡ true → (n : ℕ) → n < 2 ^ 64 → IsLeast (λ other. IsUnsigned (if flag then 64 else 32) other n) (unsigned_encoding n)
offset_in true on n small = least (IsUnsigned 64) (unsigned_encoding n) n (shortest_unsigned 64 n small)
offset_in false on n small = absurd cc

argument_at : (features : Features) → HasWholeImmediates features → (argument : MemoryArgument) → IsSmallArgument argument
    → IsLeast (λ other. IsMemoryArgument features other argument) (memory_argument_encoding argument)
unfolding memory_argument_encoding
argument_at features f argument small =
    both (λ other. IsAlignment features other (argument.exponent, argument.memory)) (λ other. IsOffset features other argument.offset)
    (alignment_encoding argument.exponent argument.memory) (unsigned_encoding argument.offset)
    (alignment features f argument.exponent argument.memory small.0 small.1) (offset_in (has features Memory64) f.memory64 argument.offset small.2)

-- ---- codes

abbrev is_good : OperatorCode → Bool
is_good (Byte b) = ltb b 256 && not (is_prefix b)
is_good (Prefixed b n) = ltb n (2 ^ 32) && is_prefix b

both_true : (a b : Bool) → (a && b) ≡ true → (a ≡ true) × (b ≡ true)
both_true true b e = (refl, e)
both_true false b e = absurd cc

is_false : (a : Bool) → not a ≡ true → a ≡ false
is_false true e = absurd cc
is_false false e = refl

code : (c : OperatorCode) → is_good c ≡ true → IsLeast (λ other. IsCode other c) (code_encoding c)
unfolding code_encoding
code (Byte b) e =
    let h = both_true (ltb b 256) (not (is_prefix b)) e in ((refl, ltb-true b 256 h.0, is_false (is_prefix b) h.1), λ other k. omega (arith, ap length k.0))
code (Prefixed b n) e =
    let h = both_true (ltb n (2 ^ 32)) (is_prefix b) e in
    let m = marked b IsU32 (unsigned_encoding n) n (index_shortest n (ltb-true n (2 ^ 32) h.0)) in ((m.encodes, h.1), λ other k. m.shortest other k.0)

-- the rows of a table have such codes
good_scalar : (row : ScalarRow) → Contains scalar_rows row → is_good row.code ≡ true
good_scalar row h = All-contains (λ r. is_good r.code ≡ true) scalar_rows row (AllPass-from_list_all (λ r. is_good r.code) scalar_rows refl) h

good_load : (row : AccessRow) → Contains load_rows row → is_good (Byte row.code) ≡ true
good_load row h = All-contains (λ r. is_good (Byte r.code) ≡ true) load_rows row (AllPass-from_list_all (λ r. is_good (Byte r.code)) load_rows refl) h

good_store : (row : AccessRow) → Contains store_rows row → is_good (Byte row.code) ≡ true
good_store row h = All-contains (λ r. is_good (Byte r.code) ≡ true) store_rows row (AllPass-from_list_all (λ r. is_good (Byte r.code)) store_rows refl) h

good_code : (operator : Operator ℕ) → IsSmallOperator operator → is_good (code_of operator) ≡ true
good_code (Block type) small = refl
good_code (Loop type) small = refl
good_code (If type) small = refl
good_code (Br label) small = refl
good_code (BrIf label) small = refl
good_code (BrTable labels other) small = refl
good_code (Call function) small = refl
good_code (CallIndirect type table) small = refl
good_code (ReturnCall function) small = refl
good_code (ReturnCallIndirect type table) small = refl
good_code (CallRef type) small = refl
good_code (ReturnCallRef type) small = refl
good_code (BrOnNull label) small = refl
good_code (BrOnNonNull label) small = refl
good_code (SelectTyped types) small = refl
good_code (LocalGet local) small = refl
good_code (LocalSet local) small = refl
good_code (LocalTee local) small = refl
good_code (GlobalGet global) small = refl
good_code (GlobalSet global) small = refl
good_code (I32Const value) small = refl
good_code (I64Const value) small = refl
good_code (F32Const bits) small = refl
good_code (F64Const bits) small = refl
good_code (V128Const bytes) small = refl
good_code (Scalar row) small = good_scalar row small
good_code (Load row argument) small = good_load row small.1
good_code (Store row argument) small = good_store row small.1
good_code (MemorySize memory) small = refl
good_code (MemoryGrow memory) small = refl
good_code (MemoryFill memory) small = refl
good_code (MemoryCopy to from) small = refl
good_code (MemoryInit segment memory) small = refl
good_code (DataDrop segment) small = refl
good_code (TableGet table) small = refl
good_code (TableSet table) small = refl
good_code (TableSize table) small = refl
good_code (TableGrow table) small = refl
good_code (TableFill table) small = refl
good_code (TableCopy to from) small = refl
good_code (TableInit segment table) small = refl
good_code (ElemDrop segment) small = refl
good_code (RefNull heap) small = refl
good_code (RefFunc function) small = refl
good_code (StructNew type) small = refl
good_code (StructNewDefault type) small = refl
good_code (ArrayNew type) small = refl
good_code (ArrayNewDefault type) small = refl
good_code (ArrayNewFixed type count) small = refl
good_code Unreachable small = refl
good_code Nop small = refl
good_code Else small = refl
good_code End small = refl
good_code Return small = refl
good_code Drop small = refl
good_code Select small = refl
good_code RefIsNull small = refl
good_code RefEq small = refl
good_code RefAsNonNull small = refl
good_code RefI31 small = refl
good_code AnyConvertExtern small = refl
good_code ExternConvertAny small = refl

-- ---- operators

immediates : (features : Features) → HasWholeImmediates features → (operator : Operator ℕ) → IsSmallOperator operator → length (immediates_encoding operator) < 2 ^ 32
    → IsLeast (λ other. AreImmediates features other operator) (immediates_encoding operator)
immediates features f (Block type) small short = block features f type small
immediates features f (Loop type) small short = block features f type small
immediates features f (If type) small short = block features f type small
immediates features f (Br label) small short = number label small
immediates features f (BrIf label) small short = number label small
immediates features f (BrTable labels other) small short = some_labels labels other small.0 small.1 short
immediates features f (Call function) small short = number function small
immediates features f (CallIndirect type table) small short = with_table features f type table small
immediates features f (ReturnCall function) small short = number function small
immediates features f (ReturnCallIndirect type table) small short = two type table small
immediates features f (CallRef type) small short = number type small
immediates features f (ReturnCallRef type) small short = number type small
immediates features f (BrOnNull label) small short = number label small
immediates features f (BrOnNonNull label) small short = number label small
immediates features f (SelectTyped types) small short = some_types types small short
immediates features f (LocalGet local) small short = number local small
immediates features f (LocalSet local) small short = number local small
immediates features f (LocalTee local) small short = number local small
immediates features f (GlobalGet global) small short = number global small
immediates features f (GlobalSet global) small short = number global small
immediates features f (I32Const value) small short = signed 32 value small
immediates features f (I64Const value) small short = signed 64 value small
immediates features f (F32Const bits) small short = float bits small
immediates features f (F64Const bits) small short = double bits small
immediates features f (V128Const bytes) small short = vector bytes small
immediates features f (Scalar row) small short = besides (λ other. other ≡ []) (Contains scalar_rows row) [] nothing small
immediates features f (Load row argument) small short = besides (λ other. IsMemoryArgument features other argument) (Contains load_rows row) (memory_argument_encoding argument) (argument_at features f argument small.0) small.1
immediates features f (Store row argument) small short = besides (λ other. IsMemoryArgument features other argument) (Contains store_rows row) (memory_argument_encoding argument) (argument_at features f argument small.0) small.1
immediates features f (MemorySize memory) small short = with_index (has features MultiMemory) f.multi_memory memory small
immediates features f (MemoryGrow memory) small short = with_index (has features MultiMemory) f.multi_memory memory small
immediates features f (MemoryFill memory) small short = number memory small
immediates features f (MemoryCopy to from) small short = two to from small
immediates features f (MemoryInit segment memory) small short = two segment memory small
immediates features f (DataDrop segment) small short = number segment small
immediates features f (TableGet table) small short = number table small
immediates features f (TableSet table) small short = number table small
immediates features f (TableSize table) small short = number table small
immediates features f (TableGrow table) small short = number table small
immediates features f (TableFill table) small short = number table small
immediates features f (TableCopy to from) small short = two to from small
immediates features f (TableInit segment table) small short = two segment table small
immediates features f (ElemDrop segment) small short = number segment small
immediates features f (RefNull type) small short = least IsHeapType (heap_encoding type) type (heap type small)
immediates features f (RefFunc function) small short = number function small
immediates features f (StructNew type) small short = number type small
immediates features f (StructNewDefault type) small short = number type small
immediates features f (ArrayNew type) small short = number type small
immediates features f (ArrayNewDefault type) small short = number type small
immediates features f (ArrayNewFixed type count) small short = two type count small
immediates features f Unreachable small short = nothing
immediates features f Nop small short = nothing
immediates features f Else small short = nothing
immediates features f End small short = nothing
immediates features f Return small short = nothing
immediates features f Drop small short = nothing
immediates features f Select small short = nothing
immediates features f RefIsNull small short = nothing
immediates features f RefEq small short = nothing
immediates features f RefAsNonNull small short = nothing
immediates features f RefI31 small short = nothing
immediates features f AnyConvertExtern small short = nothing
immediates features f ExternConvertAny small short = nothing

pub shortest_operator : (features : Features) → HasWholeImmediates features → (operator : Operator ℕ) → IsSmallOperator operator → length (operator_encoding operator) < 2 ^ 32
    → IsShortest (IsOperator features) (operator_encoding operator) operator
unfolding operator_encoding
shortest_operator features f operator small short =
    let c = code (code_of operator) (good_code operator small) in
    let i = immediates features f operator small (omega (arith, short, length-append (code_encoding (code_of operator)) (immediates_encoding operator))) in
    let s = both (λ other. IsCode other (code_of operator)) (λ other. AreImmediates features other operator)
    (code_encoding (code_of operator)) (immediates_encoding operator) c i in
    record { encodes = s.0; shortest = λ other h. s.1 other h }

-- ---- one after the other

pub shortest_operators : (features : Features) → HasWholeImmediates features → (operators : List (Operator ℕ)) → AllByRecursion IsSmallOperator operators
    → length (flat_map operator_encoding operators) < 2 ^ 32 → IsShortest (IsOperators features) (flat_map operator_encoding operators) operators
shortest_operators features f [] small short = record { encodes = refl; shortest = λ other h. omega arith }
shortest_operators features f (operator ∷ operators) small short =
    let parts = length-append (operator_encoding operator) (flat_map operator_encoding operators) in
    let first = shortest_operator features f operator small.0 (omega (arith, short, parts)) in
    let others = shortest_operators features f operators small.1 (omega (arith, short, parts)) in
    let s = both (λ other. IsOperator features other operator) (λ other. IsOperators features other operators)
    (operator_encoding operator) (flat_map operator_encoding operators) (first.encodes, λ other h. first.shortest other h) (others.encodes, λ other h. others.shortest other h) in
    record { encodes = s.0; shortest = λ other h. s.1 other h }
