-- The grammar of operators. Core Specification 3.0, Binary Format, "Instructions". How some immediates are written depends on the features: each
-- part that a proposal brought is read only with its flag. Whether the features allow an operator is a matter of typing.
use Rattle.std.specs.Prelude.{◌≡◌, ◌⊎◌, ◌+◌, ◌^◌, ◌<◌, ℕ, pos, Bool, true, false, ◌||◌, List, [], ◌∷◌, ◌++◌, map, nat_eq, if◌then◌else◌}
use Rattle.std.specs.List.{Contains, list_any}
use Rattle.wasm_bodies.specs.OperatorRows.{OperatorCode, Byte, Prefixed, is_same_code, scalar_rows, load_rows, store_rows}
use Rattle.wasm_bodies.specs.Operators.{BlockType, Empty, Value, Indexed, MemoryArgument, Operator, Unreachable, Nop, Block, Loop, If, Else, End, Br, BrIf, BrTable, Return, Call, CallIndirect, ReturnCall, ReturnCallIndirect, CallRef, ReturnCallRef, BrOnNull, BrOnNonNull, Drop, Select, SelectTyped, LocalGet, LocalSet, LocalTee, GlobalGet, GlobalSet, I32Const, I64Const, F32Const, F64Const, V128Const, Scalar, Load, Store, MemorySize, MemoryGrow, MemoryFill, MemoryCopy, MemoryInit, DataDrop, TableGet, TableSet, TableSize, TableGrow, TableFill, TableCopy, TableInit, ElemDrop, RefNull, RefIsNull, RefFunc, RefEq, RefAsNonNull, StructNew, StructNewDefault, ArrayNew, ArrayNewDefault, ArrayNewFixed, RefI31, AnyConvertExtern, ExternConvertAny}
use Rattle.wasm_spec.specs.Bytes.{IsByte, IsBytesOf, IsUnsigned, IsU32, IsS32, IsS33, IsS64, IsF32, IsF64, IsPair, IsMarked, IsItems, IsList}
use Rattle.wasm_spec.specs.Features.{Features, has, ReferenceTypes, MultiValue, MultiMemory, Memory64}
use Rattle.wasm_spec.specs.TypeGrammar.{IsHeapType, IsValType}
use Rattle.wasm_spec.specs.Types.{Func, Abstract}

-- ---- codes

-- the code of each operator
abbrev pub code_of : {R : Type 0} → Operator R → OperatorCode
code_of Unreachable = Byte 0x00
code_of Nop = Byte 0x01
code_of (Block type) = Byte 0x02
code_of (Loop type) = Byte 0x03
code_of (If type) = Byte 0x04
code_of Else = Byte 0x05
code_of End = Byte 0x0b
code_of (Br label) = Byte 0x0c
code_of (BrIf label) = Byte 0x0d
code_of (BrTable labels other) = Byte 0x0e
code_of Return = Byte 0x0f
code_of (Call function) = Byte 0x10
code_of (CallIndirect type table) = Byte 0x11
code_of (ReturnCall function) = Byte 0x12
code_of (ReturnCallIndirect type table) = Byte 0x13
code_of (CallRef type) = Byte 0x14
code_of (ReturnCallRef type) = Byte 0x15
code_of Drop = Byte 0x1a
code_of Select = Byte 0x1b
code_of (SelectTyped types) = Byte 0x1c
code_of (LocalGet local) = Byte 0x20
code_of (LocalSet local) = Byte 0x21
code_of (LocalTee local) = Byte 0x22
code_of (GlobalGet global) = Byte 0x23
code_of (GlobalSet global) = Byte 0x24
code_of (TableGet table) = Byte 0x25
code_of (TableSet table) = Byte 0x26
code_of (Load row argument) = Byte row.code
code_of (Store row argument) = Byte row.code
code_of (MemorySize memory) = Byte 0x3f
code_of (MemoryGrow memory) = Byte 0x40
code_of (I32Const value) = Byte 0x41
code_of (I64Const value) = Byte 0x42
code_of (F32Const bits) = Byte 0x43
code_of (F64Const bits) = Byte 0x44
code_of (Scalar row) = row.code
code_of (RefNull heap) = Byte 0xd0
code_of RefIsNull = Byte 0xd1
code_of (RefFunc function) = Byte 0xd2
code_of RefEq = Byte 0xd3
code_of RefAsNonNull = Byte 0xd4
code_of (BrOnNull label) = Byte 0xd5
code_of (BrOnNonNull label) = Byte 0xd6
code_of (StructNew type) = Prefixed 0xfb 0
code_of (StructNewDefault type) = Prefixed 0xfb 1
code_of (ArrayNew type) = Prefixed 0xfb 6
code_of (ArrayNewDefault type) = Prefixed 0xfb 7
code_of (ArrayNewFixed type count) = Prefixed 0xfb 8
code_of AnyConvertExtern = Prefixed 0xfb 26
code_of ExternConvertAny = Prefixed 0xfb 27
code_of RefI31 = Prefixed 0xfb 28
code_of (MemoryInit segment memory) = Prefixed 0xfc 8
code_of (DataDrop segment) = Prefixed 0xfc 9
code_of (MemoryCopy to from) = Prefixed 0xfc 10
code_of (MemoryFill memory) = Prefixed 0xfc 11
code_of (TableInit segment table) = Prefixed 0xfc 12
code_of (ElemDrop segment) = Prefixed 0xfc 13
code_of (TableCopy to from) = Prefixed 0xfc 14
code_of (TableGrow table) = Prefixed 0xfc 15
code_of (TableSize table) = Prefixed 0xfc 16
code_of (TableFill table) = Prefixed 0xfc 17
code_of (V128Const bytes) = Prefixed 0xfd 12

-- the bytes after which a second code stands
abbrev pub is_prefix : ℕ → Bool
is_prefix b = nat_eq b 0xfb || nat_eq b 0xfc || nat_eq b 0xfd

-- A code: a byte that is no prefix, or a prefix and a second code, which is a u32, so that it may be padded.
abbrev pub IsCode : List ℕ → OperatorCode → Type 0
IsCode encoding (Byte b) = (encoding ≡ b ∷ []) × IsByte b × (is_prefix b ≡ false)
IsCode encoding (Prefixed b n) = IsMarked b IsU32 encoding n × (is_prefix b ≡ true)

-- ---- immediates

-- (Instructions, "Control Instructions"); a type index is a signed number that isn't negative
abbrev pub IsBlockType : Features → List ℕ → BlockType ℕ → Type 0
IsBlockType features encoding Empty = encoding ≡ 0x40 ∷ []
IsBlockType features encoding (Value type) = IsValType encoding type
IsBlockType features encoding (Indexed index) = (has features MultiValue ≡ true) × IsS33 encoding (pos index)

-- An index, or without the feature that brought several such items a single byte of 0.
abbrev pub IsIndexWith : Bool → List ℕ → ℕ → Type 0
IsIndexWith true encoding index = IsU32 encoding index
IsIndexWith false encoding index = (encoding ≡ 0x00 ∷ []) × (index ≡ 0)

-- The exponent, which is below 2 ^ 6; or with several memories 2 ^ 6 more than it, and then the memory, which else is the first ("Memory Instructions").
abbrev pub IsAlignment : Features → List ℕ → ℕ × ℕ → Type 0
IsAlignment features encoding place =
    (place.0 < 2 ^ 6)
    × ((IsU32 encoding place.0 × (place.1 ≡ 0)) ⊎ ((has features MultiMemory ≡ true) × IsPair IsU32 IsU32 encoding (place.0 + 2 ^ 6, place.1)))

-- An offset has 64 bits where memories may.
abbrev pub IsOffset : Features → List ℕ → ℕ → Type 0
IsOffset features encoding offset = IsUnsigned (if has features Memory64 then 64 else 32) encoding offset

abbrev pub IsMemoryArgument : Features → List ℕ → MemoryArgument → Type 0
IsMemoryArgument features encoding argument = IsPair (IsAlignment features) (IsOffset features) encoding ((argument.exponent, argument.memory), argument.offset)

-- what stands after the code; an operator of a table is one of its rows
abbrev pub AreImmediates : Features → List ℕ → Operator ℕ → Type 0
AreImmediates features encoding (Block type) = IsBlockType features encoding type
AreImmediates features encoding (Loop type) = IsBlockType features encoding type
AreImmediates features encoding (If type) = IsBlockType features encoding type
AreImmediates features encoding (Br label) = IsU32 encoding label
AreImmediates features encoding (BrIf label) = IsU32 encoding label
AreImmediates features encoding (BrTable labels other) = IsPair (IsList IsU32) IsU32 encoding (labels, other)
AreImmediates features encoding (Call function) = IsU32 encoding function
AreImmediates features encoding (CallIndirect type table) = IsPair IsU32 (IsIndexWith (has features ReferenceTypes)) encoding (type, table)
AreImmediates features encoding (ReturnCall function) = IsU32 encoding function
AreImmediates features encoding (ReturnCallIndirect type table) = IsPair IsU32 IsU32 encoding (type, table)
AreImmediates features encoding (CallRef type) = IsU32 encoding type
AreImmediates features encoding (ReturnCallRef type) = IsU32 encoding type
AreImmediates features encoding (SelectTyped types) = IsList IsValType encoding types
AreImmediates features encoding (LocalGet local) = IsU32 encoding local
AreImmediates features encoding (LocalSet local) = IsU32 encoding local
AreImmediates features encoding (LocalTee local) = IsU32 encoding local
AreImmediates features encoding (GlobalGet global) = IsU32 encoding global
AreImmediates features encoding (GlobalSet global) = IsU32 encoding global
AreImmediates features encoding (TableGet table) = IsU32 encoding table
AreImmediates features encoding (TableSet table) = IsU32 encoding table
AreImmediates features encoding (Load row argument) = IsMemoryArgument features encoding argument × Contains load_rows row
AreImmediates features encoding (Store row argument) = IsMemoryArgument features encoding argument × Contains store_rows row
AreImmediates features encoding (MemorySize memory) = IsIndexWith (has features MultiMemory) encoding memory
AreImmediates features encoding (MemoryGrow memory) = IsIndexWith (has features MultiMemory) encoding memory
AreImmediates features encoding (I32Const value) = IsS32 encoding value
AreImmediates features encoding (I64Const value) = IsS64 encoding value
AreImmediates features encoding (F32Const bits) = IsF32 encoding bits
AreImmediates features encoding (F64Const bits) = IsF64 encoding bits
AreImmediates features encoding (Scalar row) = (encoding ≡ []) × Contains scalar_rows row
AreImmediates features encoding (RefNull heap) = IsHeapType encoding heap
AreImmediates features encoding (RefFunc function) = IsU32 encoding function
AreImmediates features encoding (BrOnNull label) = IsU32 encoding label
AreImmediates features encoding (BrOnNonNull label) = IsU32 encoding label
AreImmediates features encoding (StructNew type) = IsU32 encoding type
AreImmediates features encoding (StructNewDefault type) = IsU32 encoding type
AreImmediates features encoding (ArrayNew type) = IsU32 encoding type
AreImmediates features encoding (ArrayNewDefault type) = IsU32 encoding type
AreImmediates features encoding (ArrayNewFixed type count) = IsPair IsU32 IsU32 encoding (type, count)
AreImmediates features encoding (MemoryInit segment memory) = IsPair IsU32 IsU32 encoding (segment, memory)
AreImmediates features encoding (DataDrop segment) = IsU32 encoding segment
AreImmediates features encoding (MemoryCopy to from) = IsPair IsU32 IsU32 encoding (to, from)
AreImmediates features encoding (MemoryFill memory) = IsU32 encoding memory
AreImmediates features encoding (TableInit segment table) = IsPair IsU32 IsU32 encoding (segment, table)
AreImmediates features encoding (ElemDrop segment) = IsU32 encoding segment
AreImmediates features encoding (TableCopy to from) = IsPair IsU32 IsU32 encoding (to, from)
AreImmediates features encoding (TableGrow table) = IsU32 encoding table
AreImmediates features encoding (TableSize table) = IsU32 encoding table
AreImmediates features encoding (TableFill table) = IsU32 encoding table
AreImmediates features encoding (V128Const bytes) = IsBytesOf 16 encoding bytes
-- the others have none
AreImmediates features encoding _ = encoding ≡ []

-- ---- operators

-- an operator: its code, and its immediates
abbrev pub IsOperator : Features → List ℕ → Operator ℕ → Type 0
IsOperator features encoding operator =
    (code others : List ℕ) × (encoding ≡ code ++ others) × IsCode code (code_of operator) × AreImmediates features others operator

abbrev pub IsOperators : Features → List ℕ → List (Operator ℕ) → Type 0
IsOperators features encoding operators = IsItems (IsOperator features) encoding operators

-- ---- the table

-- an operator of each form, those of the tables of rows aside
abbrev pub forms : List (Operator ℕ)
forms =
    Unreachable ∷ Nop ∷ Block Empty ∷ Loop Empty ∷ If Empty ∷ Else ∷ End ∷ Br 0 ∷ BrIf 0 ∷ BrTable [] 0 ∷ Return ∷ Call 0 ∷ CallIndirect 0 0
    ∷ ReturnCall 0 ∷ ReturnCallIndirect 0 0 ∷ CallRef 0 ∷ ReturnCallRef 0 ∷ BrOnNull 0 ∷ BrOnNonNull 0 ∷ Drop ∷ Select ∷ SelectTyped []
    ∷ LocalGet 0 ∷ LocalSet 0 ∷ LocalTee 0 ∷ GlobalGet 0 ∷ GlobalSet 0 ∷ I32Const (pos 0) ∷ I64Const (pos 0) ∷ F32Const 0 ∷ F64Const 0 ∷ V128Const []
    ∷ MemorySize 0 ∷ MemoryGrow 0 ∷ MemoryFill 0 ∷ MemoryCopy 0 0 ∷ MemoryInit 0 0 ∷ DataDrop 0 ∷ TableGet 0 ∷ TableSet 0 ∷ TableSize 0 ∷ TableGrow 0
    ∷ TableFill 0 ∷ TableCopy 0 0 ∷ TableInit 0 0 ∷ ElemDrop 0 ∷ RefNull (Abstract Func) ∷ RefIsNull ∷ RefFunc 0 ∷ RefEq ∷ RefAsNonNull
    ∷ StructNew 0 ∷ StructNewDefault 0 ∷ ArrayNew 0 ∷ ArrayNewDefault 0 ∷ ArrayNewFixed 0 0 ∷ RefI31 ∷ AnyConvertExtern ∷ ExternConvertAny ∷ []

-- all codes of operators
abbrev pub codes : List OperatorCode
codes = map code_of forms ++ (map (λ row. row.code) scalar_rows ++ map (λ row. Byte row.code) (load_rows ++ store_rows))

abbrev pub is_among_codes : OperatorCode → Bool
is_among_codes code = list_any (is_same_code code) codes

-- The bytes are a code that no operator has, whatever the features.
abbrev pub IsOtherCode : List ℕ → Type 0
IsOtherCode encoding = (code : OperatorCode) × IsCode encoding code × (is_among_codes code ≡ false)
