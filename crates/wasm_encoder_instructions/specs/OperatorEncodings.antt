-- The encodings of operators that an encoder writes: the shortest of each, under features that bring several memories, long offsets, several tables
-- and blocks of any type. Core Specification 3.0, Binary Format, "Instructions".
use Rattle.std.specs.Int.{w32, w64, to_le_bytes}
use Rattle.std.specs.Prelude.{ℕ, ◌+◌, ◌^◌, pos, List, [], ◌∷◌, ◌++◌, nat_eq, if◌then◌else◌}
use Rattle.wasm_bodies.specs.OperatorGrammar.{code_of}
use Rattle.wasm_bodies.specs.OperatorRows.{OperatorCode, Byte, Prefixed}
use Rattle.wasm_bodies.specs.Operators.{BlockType, Empty, Value, Indexed, MemoryArgument, Operator, Block, Loop, If, Br, BrIf, BrTable, Call, CallIndirect, ReturnCall, ReturnCallIndirect, CallRef, ReturnCallRef, BrOnNull, BrOnNonNull, SelectTyped, LocalGet, LocalSet, LocalTee, GlobalGet, GlobalSet, I32Const, I64Const, F32Const, F64Const, V128Const, Load, Store, MemorySize, MemoryGrow, MemoryFill, MemoryCopy, MemoryInit, DataDrop, TableGet, TableSet, TableSize, TableGrow, TableFill, TableCopy, TableInit, ElemDrop, RefNull, RefFunc, StructNew, StructNewDefault, ArrayNew, ArrayNewDefault, ArrayNewFixed}
use Rattle.wasm_spec.specs.Shortest.{unsigned_encoding, signed_encoding, list_encoding}
use Rattle.wasm_spec.specs.TypeEncodings.{heap_encoding, val_encoding}

-- a byte, or a prefix and a second code
unfoldable pub code_encoding : OperatorCode → List ℕ
code_encoding (Byte b) = b ∷ []
code_encoding (Prefixed b n) = b ∷ unsigned_encoding n

-- (Instructions, "Control Instructions")
unfoldable pub block_encoding : BlockType ℕ → List ℕ
block_encoding Empty = 0x40 ∷ []
block_encoding (Value type) = val_encoding type
block_encoding (Indexed index) = signed_encoding (pos index)

-- The exponent alone says that the memory is the first one; of another one 2 ^ 6 more than it, and then the memory (Instructions, "Memory Instructions").
unfoldable pub alignment_encoding : ℕ → ℕ → List ℕ
alignment_encoding exponent memory =
    if nat_eq memory 0 then unsigned_encoding exponent else (unsigned_encoding (exponent + 2 ^ 6) ++ unsigned_encoding memory)

unfoldable pub memory_argument_encoding : MemoryArgument → List ℕ
memory_argument_encoding argument = alignment_encoding argument.exponent argument.memory ++ unsigned_encoding argument.offset

-- two indexes, one after the other
unfoldable pub indexes_encoding : ℕ → ℕ → List ℕ
indexes_encoding first second = unsigned_encoding first ++ unsigned_encoding second

unfoldable pub labels_encoding : List ℕ → ℕ → List ℕ
labels_encoding labels other = list_encoding unsigned_encoding labels ++ unsigned_encoding other

-- what stands after the code
abbrev pub immediates_encoding : Operator ℕ → List ℕ
immediates_encoding (Block type) = block_encoding type
immediates_encoding (Loop type) = block_encoding type
immediates_encoding (If type) = block_encoding type
immediates_encoding (Br label) = unsigned_encoding label
immediates_encoding (BrIf label) = unsigned_encoding label
immediates_encoding (BrTable labels other) = labels_encoding labels other
immediates_encoding (Call function) = unsigned_encoding function
immediates_encoding (CallIndirect type table) = indexes_encoding type table
immediates_encoding (ReturnCall function) = unsigned_encoding function
immediates_encoding (ReturnCallIndirect type table) = indexes_encoding type table
immediates_encoding (CallRef type) = unsigned_encoding type
immediates_encoding (ReturnCallRef type) = unsigned_encoding type
immediates_encoding (SelectTyped types) = list_encoding val_encoding types
immediates_encoding (LocalGet local) = unsigned_encoding local
immediates_encoding (LocalSet local) = unsigned_encoding local
immediates_encoding (LocalTee local) = unsigned_encoding local
immediates_encoding (GlobalGet global) = unsigned_encoding global
immediates_encoding (GlobalSet global) = unsigned_encoding global
immediates_encoding (TableGet table) = unsigned_encoding table
immediates_encoding (TableSet table) = unsigned_encoding table
immediates_encoding (Load row argument) = memory_argument_encoding argument
immediates_encoding (Store row argument) = memory_argument_encoding argument
immediates_encoding (MemorySize memory) = unsigned_encoding memory
immediates_encoding (MemoryGrow memory) = unsigned_encoding memory
immediates_encoding (I32Const value) = signed_encoding value
immediates_encoding (I64Const value) = signed_encoding value
immediates_encoding (F32Const bits) = to_le_bytes w32 bits
immediates_encoding (F64Const bits) = to_le_bytes w64 bits
immediates_encoding (RefNull heap) = heap_encoding heap
immediates_encoding (RefFunc function) = unsigned_encoding function
immediates_encoding (BrOnNull label) = unsigned_encoding label
immediates_encoding (BrOnNonNull label) = unsigned_encoding label
immediates_encoding (StructNew type) = unsigned_encoding type
immediates_encoding (StructNewDefault type) = unsigned_encoding type
immediates_encoding (ArrayNew type) = unsigned_encoding type
immediates_encoding (ArrayNewDefault type) = unsigned_encoding type
immediates_encoding (ArrayNewFixed type count) = indexes_encoding type count
immediates_encoding (MemoryInit segment memory) = indexes_encoding segment memory
immediates_encoding (DataDrop segment) = unsigned_encoding segment
immediates_encoding (MemoryCopy to from) = indexes_encoding to from
immediates_encoding (MemoryFill memory) = unsigned_encoding memory
immediates_encoding (TableInit segment table) = indexes_encoding segment table
immediates_encoding (ElemDrop segment) = unsigned_encoding segment
immediates_encoding (TableCopy to from) = indexes_encoding to from
immediates_encoding (TableGrow table) = unsigned_encoding table
immediates_encoding (TableSize table) = unsigned_encoding table
immediates_encoding (TableFill table) = unsigned_encoding table
immediates_encoding (V128Const bytes) = bytes
-- the others have none
immediates_encoding _ = []

unfoldable pub operator_encoding : Operator ℕ → List ℕ
operator_encoding operator = code_encoding (code_of operator) ++ immediates_encoding operator
