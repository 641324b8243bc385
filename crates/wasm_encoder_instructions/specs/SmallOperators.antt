-- Operators that an encoding can state: their numbers are in their ranges, and those of a table are one of its rows. Core Specification 3.0, Binary
-- Format, "Instructions".
use Rattle.std.specs.List.{AllByRecursion, Contains}
use Rattle.std.specs.Prelude.{◌≡◌, ◌<◌, ◌-◌, ◌^◌, ℕ, ℤ, pos, negsuc, ⊤, true, length}
use Rattle.wasm_bodies.specs.OperatorRows.{scalar_rows, load_rows, store_rows}
use Rattle.wasm_bodies.specs.Operators.{BlockType, Empty, Value, Indexed, MemoryArgument, Operator, Block, Loop, If, Br, BrIf, BrTable, Call, CallIndirect, ReturnCall, ReturnCallIndirect, CallRef, ReturnCallRef, BrOnNull, BrOnNonNull, SelectTyped, LocalGet, LocalSet, LocalTee, GlobalGet, GlobalSet, I32Const, I64Const, F32Const, F64Const, V128Const, Scalar, Load, Store, MemorySize, MemoryGrow, MemoryFill, MemoryCopy, MemoryInit, DataDrop, TableGet, TableSet, TableSize, TableGrow, TableFill, TableCopy, TableInit, ElemDrop, RefNull, RefFunc, StructNew, StructNewDefault, ArrayNew, ArrayNewDefault, ArrayNewFixed}
use Rattle.wasm_spec.specs.Bytes.{AreBytes}
use Rattle.wasm_spec.specs.Features.{Features, has, ReferenceTypes, MultiValue, MultiMemory, Memory64}
use Rattle.wasm_spec.specs.SmallIndexes.{IsSmallIndex, IsSmallHeap, IsSmallValue}

-- The features under which each immediate is read as it is written: indexes of tables and of memories as numbers, and memory arguments and block types of any
-- kind.
pub record HasWholeImmediates (features : Features) : Type 0 where
  pub reference_types : has features ReferenceTypes ≡ true
  pub multi_value : has features MultiValue ≡ true
  pub multi_memory : has features MultiMemory ≡ true
  pub memory64 : has features Memory64 ≡ true

abbrev pub IsSmallBlock : BlockType ℕ → Type 0
IsSmallBlock Empty = ⊤
IsSmallBlock (Value type) = IsSmallValue type
IsSmallBlock (Indexed index) = IsSmallIndex index

abbrev pub IsSmallArgument : MemoryArgument → Type 0
IsSmallArgument argument = (argument.exponent < 2 ^ 6) × IsSmallIndex argument.memory × (argument.offset < 2 ^ 64)

-- a signed number of so many bits; negsuc n is -(n + 1)
abbrev pub IsSmallSigned : ℕ → ℤ → Type 0
IsSmallSigned bits (pos n) = n < 2 ^ (bits - 1)
IsSmallSigned bits (negsuc n) = n < 2 ^ (bits - 1)

abbrev pub AreSmall : ℕ → ℕ → Type 0
AreSmall first second = IsSmallIndex first × IsSmallIndex second

abbrev pub IsSmallOperator : Operator ℕ → Type 0
IsSmallOperator (Block type) = IsSmallBlock type
IsSmallOperator (Loop type) = IsSmallBlock type
IsSmallOperator (If type) = IsSmallBlock type
IsSmallOperator (Br label) = IsSmallIndex label
IsSmallOperator (BrIf label) = IsSmallIndex label
IsSmallOperator (BrTable labels other) = AllByRecursion IsSmallIndex labels × IsSmallIndex other
IsSmallOperator (Call function) = IsSmallIndex function
IsSmallOperator (CallIndirect type table) = AreSmall type table
IsSmallOperator (ReturnCall function) = IsSmallIndex function
IsSmallOperator (ReturnCallIndirect type table) = AreSmall type table
IsSmallOperator (CallRef type) = IsSmallIndex type
IsSmallOperator (ReturnCallRef type) = IsSmallIndex type
IsSmallOperator (BrOnNull label) = IsSmallIndex label
IsSmallOperator (BrOnNonNull label) = IsSmallIndex label
IsSmallOperator (SelectTyped types) = AllByRecursion IsSmallValue types
IsSmallOperator (LocalGet local) = IsSmallIndex local
IsSmallOperator (LocalSet local) = IsSmallIndex local
IsSmallOperator (LocalTee local) = IsSmallIndex local
IsSmallOperator (GlobalGet global) = IsSmallIndex global
IsSmallOperator (GlobalSet global) = IsSmallIndex global
IsSmallOperator (I32Const value) = IsSmallSigned 32 value
IsSmallOperator (I64Const value) = IsSmallSigned 64 value
IsSmallOperator (F32Const bits) = bits < 2 ^ 32
IsSmallOperator (F64Const bits) = bits < 2 ^ 64
IsSmallOperator (V128Const bytes) = AreBytes bytes × (length bytes ≡ 16)
IsSmallOperator (Scalar row) = Contains scalar_rows row
IsSmallOperator (Load row argument) = IsSmallArgument argument × Contains load_rows row
IsSmallOperator (Store row argument) = IsSmallArgument argument × Contains store_rows row
IsSmallOperator (MemorySize memory) = IsSmallIndex memory
IsSmallOperator (MemoryGrow memory) = IsSmallIndex memory
IsSmallOperator (MemoryFill memory) = IsSmallIndex memory
IsSmallOperator (MemoryCopy to from) = AreSmall to from
IsSmallOperator (MemoryInit segment memory) = AreSmall segment memory
IsSmallOperator (DataDrop segment) = IsSmallIndex segment
IsSmallOperator (TableGet table) = IsSmallIndex table
IsSmallOperator (TableSet table) = IsSmallIndex table
IsSmallOperator (TableSize table) = IsSmallIndex table
IsSmallOperator (TableGrow table) = IsSmallIndex table
IsSmallOperator (TableFill table) = IsSmallIndex table
IsSmallOperator (TableCopy to from) = AreSmall to from
IsSmallOperator (TableInit segment table) = AreSmall segment table
IsSmallOperator (ElemDrop segment) = IsSmallIndex segment
IsSmallOperator (RefNull heap) = IsSmallHeap heap
IsSmallOperator (RefFunc function) = IsSmallIndex function
IsSmallOperator (StructNew type) = IsSmallIndex type
IsSmallOperator (StructNewDefault type) = IsSmallIndex type
IsSmallOperator (ArrayNew type) = IsSmallIndex type
IsSmallOperator (ArrayNewDefault type) = IsSmallIndex type
IsSmallOperator (ArrayNewFixed type count) = AreSmall type count
IsSmallOperator _ = ⊤
