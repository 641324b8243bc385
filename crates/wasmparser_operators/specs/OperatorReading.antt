-- Reading operators from the front of a list of bytes: means of proof, which the laws tie to the grammar. What stands after a code is of one of
-- some fifteen shapes, and one table says which shape it is for each code.
use Rattle.std.specs.Prelude.{◌^◌, ◌-◌, ◌||◌, ℕ, ℤ, Bool, true, false, List, [], ◌∷◌, ◌++◌, Option, Some, None, nat_lt, nat_le, ◌==◌, if◌then◌else◌}
use Rattle.std.specs.List.{list_all}
use Rattle.std.specs.Option.{option_map}
use Rattle.wasm_core_read.specs.Reading.{◌>>=◌, ReadingOf, byte_at, unsigned_at, signed_at, bytes_at, float_at, seen_at, tested_at, pair_at, announced_at, bare_code, no_code}
use Rattle.wasm_core_read.specs.TypeReading.{list_at, heap_index_at, heap_type_at, val_type_at}
use Rattle.wasm_bodies.specs.OperatorGrammar.{is_prefix}
use Rattle.wasm_bodies.specs.OperatorRows.{OperatorCode, Byte, Prefixed, ScalarRow, AccessRow}
use Rattle.wasm_bodies.specs.Operators.{BlockType, Empty, Value, Indexed, MemoryArgument, Operator, Unreachable, Nop, Block, Loop, If, Else, End, Br, BrIf, BrTable, Return, Call, CallIndirect, ReturnCall, ReturnCallIndirect, CallRef, ReturnCallRef, BrOnNull, BrOnNonNull, Drop, Select, SelectTyped, LocalGet, LocalSet, LocalTee, GlobalGet, GlobalSet, I32Const, I64Const, F32Const, F64Const, V128Const, Scalar, Load, Store, MemorySize, MemoryGrow, MemoryFill, MemoryCopy, MemoryInit, DataDrop, TableGet, TableSet, TableSize, TableGrow, TableFill, TableCopy, TableInit, ElemDrop, RefNull, RefIsNull, RefFunc, RefEq, RefAsNonNull, StructNew, StructNewDefault, ArrayNew, ArrayNewDefault, ArrayNewFixed, RefI31, AnyConvertExtern, ExternConvertAny}
use Rattle.wasm_spec.specs.Features.{Features, has, ReferenceTypes, MultiValue, MultiMemory, Memory64}
use Rattle.wasm_spec.specs.TypeReferences.{val_refs}
use Rattle.wasm_spec.specs.Types.{HeapType, ValType}
use Rattle.wasmparser_types.specs.Index.{packable}
use Rattle.wasmparser_operators.specs.CodeTables.{first_of, row_of, load_of, store_of}

-- ---- codes

-- a code after its first byte
abbrev pub code_from : ℕ → ReadingOf OperatorCode
code_from b rest = if is_prefix b then seen_at (λ n. Prefixed b n) (unsigned_at 32) rest else Some (Byte b, rest)

unfoldable pub code_at : ReadingOf OperatorCode
code_at = announced_at code_from

-- ---- immediates

-- which types in an operator are kept: all of them, or those alone whose indexes can be packed
pub data Kept : Type 0 where
  All : Kept
  Packed : Kept

abbrev pub is_small : ValType ℕ → Bool
is_small type = list_all (λ index. nat_lt index packable) (val_refs type)

abbrev pub is_kept : Kept → ValType ℕ → Bool
is_kept All type = true
is_kept Packed type = is_small type

-- a list of types is kept as its bytes, but for one that has a single type
abbrev pub are_kept : Kept → List (ValType ℕ) → Bool
are_kept kept (type ∷ []) = is_kept kept type
are_kept kept types = true

unfoldable pub kept_type_at : Kept → ReadingOf (ValType ℕ)
kept_type_at kept = tested_at (is_kept kept) val_type_at

-- a number that isn't negative begins with such a byte, and a value type doesn't
abbrev pub begins_index : ℕ → Bool
begins_index b = nat_lt b 0x40 || nat_le 0x80 b

-- a block type that is an index
unfoldable pub block_index_at : Features → ReadingOf (BlockType ℕ)
block_index_at features bytes = if has features MultiValue then seen_at (λ index. Indexed index) heap_index_at bytes else None

-- a block type whose first byte, which stands in front of the bytes, is this one
abbrev pub block_type_with : Kept → Features → ℕ → ReadingOf (BlockType ℕ)
block_type_with kept features b bytes =
    if b == 0x40 then seen_at (λ code. Empty) byte_at bytes
    else (if begins_index b then block_index_at features bytes else seen_at (λ type. Value type) (kept_type_at kept) bytes)

unfoldable pub block_type_at : Kept → Features → ReadingOf (BlockType ℕ)
block_type_at kept features [] = None
block_type_at kept features (b ∷ rest) = block_type_with kept features b (b ∷ rest)

-- an index, or a single byte of 0
unfoldable pub index_with_at : Bool → ReadingOf ℕ
index_with_at true = unsigned_at 32
index_with_at false = announced_at (bare_code 0x00 0 no_code)

-- the exponent and the memory, where the number that stands first was read
abbrev pub alignment_from : Bool → ℕ → ReadingOf (ℕ × ℕ)
alignment_from several flags rest =
    if nat_lt flags (2 ^ 6) then Some ((flags, 0), rest)
    else (if several then (if nat_lt flags (2 ^ 7) then seen_at (λ memory. (flags - 2 ^ 6, memory)) (unsigned_at 32) rest else None) else None)

unfoldable pub alignment_at : Bool → ReadingOf (ℕ × ℕ)
alignment_at several bytes = unsigned_at 32 bytes >>= λ flags. alignment_from several flags.0 flags.1

abbrev pub offset_bits : Features → ℕ
offset_bits features = if has features Memory64 then 64 else 32

unfoldable pub memory_argument_at : Features → ReadingOf MemoryArgument
memory_argument_at features =
    seen_at (λ x. record { exponent = x.0.0; memory = x.0.1; offset = x.1 }) (pair_at (alignment_at (has features MultiMemory)) (unsigned_at (offset_bits features)))

unfoldable pub types_at : Kept → ReadingOf (List (ValType ℕ))
types_at kept = tested_at (are_kept kept) (list_at val_type_at)

unfoldable pub labels_at : ReadingOf (List ℕ × ℕ)
labels_at = pair_at (list_at (unsigned_at 32)) (unsigned_at 32)

-- ---- shapes

-- what stands after a code, and what operator it makes
pub data Shape : Type 0 where
  -- nothing
  Bare : Operator ℕ → Shape
  -- a u32, and two of them
  Number : (ℕ → Operator ℕ) → Shape
  Numbers : (ℕ → ℕ → Operator ℕ) → Shape
  -- an index and a table, and a memory: a single byte, as features say
  OfTable : (ℕ → ℕ → Operator ℕ) → Shape
  OfMemory : (ℕ → Operator ℕ) → Shape
  Access : (MemoryArgument → Operator ℕ) → Shape
  OfBlock : (BlockType ℕ → Operator ℕ) → Shape
  OfHeap : (HeapType ℕ → Operator ℕ) → Shape
  OfTypes : (List (ValType ℕ) → Operator ℕ) → Shape
  Labels : (List ℕ → ℕ → Operator ℕ) → Shape
  -- a signed number of so many bits
  Signed : ℕ → (ℤ → Operator ℕ) → Shape
  -- the bits of a float of so many bytes
  Float : ℕ → (ℕ → Operator ℕ) → Shape
  Sixteen : (List ℕ → Operator ℕ) → Shape

abbrev pub shape_at : Kept → Features → Shape → ReadingOf (Operator ℕ)
shape_at kept features (Bare operator) = λ bytes. Some (operator, bytes)
shape_at kept features (Number f) = seen_at f (unsigned_at 32)
shape_at kept features (Numbers f) = seen_at (λ x. f x.0 x.1) (pair_at (unsigned_at 32) (unsigned_at 32))
shape_at kept features (OfTable f) = seen_at (λ x. f x.0 x.1) (pair_at (unsigned_at 32) (index_with_at (has features ReferenceTypes)))
shape_at kept features (OfMemory f) = seen_at f (index_with_at (has features MultiMemory))
shape_at kept features (Access f) = seen_at f (memory_argument_at features)
shape_at kept features (OfBlock f) = seen_at f (block_type_at kept features)
shape_at kept features (OfHeap f) = seen_at f heap_type_at
shape_at kept features (OfTypes f) = seen_at f (types_at kept)
shape_at kept features (Labels f) = seen_at (λ x. f x.0 x.1) labels_at
shape_at kept features (Signed bits f) = seen_at f (signed_at bits)
shape_at kept features (Float len f) = seen_at f (float_at len)
shape_at kept features (Sixteen f) = seen_at f (bytes_at 16)

-- ---- the table

abbrev pub Entry : Type 0
Entry = OperatorCode × Shape

-- the operators that are no row, in the order in which the grammar lists them
abbrev pub form_entries : List Entry
form_entries =
    (Byte 0x00, Bare Unreachable) ∷ (Byte 0x01, Bare Nop) ∷ (Byte 0x02, OfBlock (λ type. Block type)) ∷ (Byte 0x03, OfBlock (λ type. Loop type))
    ∷ (Byte 0x04, OfBlock (λ type. If type)) ∷ (Byte 0x05, Bare Else) ∷ (Byte 0x0b, Bare End) ∷ (Byte 0x0c, Number (λ label. Br label))
    ∷ (Byte 0x0d, Number (λ label. BrIf label)) ∷ (Byte 0x0e, Labels (λ labels other. BrTable labels other)) ∷ (Byte 0x0f, Bare Return)
    ∷ (Byte 0x10, Number (λ function. Call function)) ∷ (Byte 0x11, OfTable (λ type table. CallIndirect type table))
    ∷ (Byte 0x12, Number (λ function. ReturnCall function)) ∷ (Byte 0x13, Numbers (λ type table. ReturnCallIndirect type table))
    ∷ (Byte 0x14, Number (λ type. CallRef type)) ∷ (Byte 0x15, Number (λ type. ReturnCallRef type))
    ∷ (Byte 0xd5, Number (λ label. BrOnNull label)) ∷ (Byte 0xd6, Number (λ label. BrOnNonNull label))
    ∷ (Byte 0x1a, Bare Drop) ∷ (Byte 0x1b, Bare Select) ∷ (Byte 0x1c, OfTypes (λ types. SelectTyped types))
    ∷ (Byte 0x20, Number (λ local. LocalGet local)) ∷ (Byte 0x21, Number (λ local. LocalSet local)) ∷ (Byte 0x22, Number (λ local. LocalTee local))
    ∷ (Byte 0x23, Number (λ global. GlobalGet global)) ∷ (Byte 0x24, Number (λ global. GlobalSet global))
    ∷ (Byte 0x41, Signed 32 (λ value. I32Const value)) ∷ (Byte 0x42, Signed 64 (λ value. I64Const value))
    ∷ (Byte 0x43, Float 4 (λ bits. F32Const bits)) ∷ (Byte 0x44, Float 8 (λ bits. F64Const bits)) ∷ (Prefixed 0xfd 12, Sixteen (λ bytes. V128Const bytes))
    ∷ (Byte 0x3f, OfMemory (λ memory. MemorySize memory)) ∷ (Byte 0x40, OfMemory (λ memory. MemoryGrow memory))
    ∷ (Prefixed 0xfc 11, Number (λ memory. MemoryFill memory)) ∷ (Prefixed 0xfc 10, Numbers (λ to from. MemoryCopy to from))
    ∷ (Prefixed 0xfc 8, Numbers (λ segment memory. MemoryInit segment memory)) ∷ (Prefixed 0xfc 9, Number (λ segment. DataDrop segment))
    ∷ (Byte 0x25, Number (λ table. TableGet table)) ∷ (Byte 0x26, Number (λ table. TableSet table))
    ∷ (Prefixed 0xfc 16, Number (λ table. TableSize table)) ∷ (Prefixed 0xfc 15, Number (λ table. TableGrow table))
    ∷ (Prefixed 0xfc 17, Number (λ table. TableFill table)) ∷ (Prefixed 0xfc 14, Numbers (λ to from. TableCopy to from))
    ∷ (Prefixed 0xfc 12, Numbers (λ segment table. TableInit segment table)) ∷ (Prefixed 0xfc 13, Number (λ segment. ElemDrop segment))
    ∷ (Byte 0xd0, OfHeap (λ heap. RefNull heap)) ∷ (Byte 0xd1, Bare RefIsNull) ∷ (Byte 0xd2, Number (λ function. RefFunc function))
    ∷ (Byte 0xd3, Bare RefEq) ∷ (Byte 0xd4, Bare RefAsNonNull) ∷ (Prefixed 0xfb 0, Number (λ type. StructNew type))
    ∷ (Prefixed 0xfb 1, Number (λ type. StructNewDefault type)) ∷ (Prefixed 0xfb 6, Number (λ type. ArrayNew type))
    ∷ (Prefixed 0xfb 7, Number (λ type. ArrayNewDefault type)) ∷ (Prefixed 0xfb 8, Numbers (λ type count. ArrayNewFixed type count))
    ∷ (Prefixed 0xfb 28, Bare RefI31) ∷ (Prefixed 0xfb 26, Bare AnyConvertExtern) ∷ (Prefixed 0xfb 27, Bare ExternConvertAny) ∷ []

-- the shape of an operator that is a row
abbrev pub scalar_shape : ScalarRow → Shape
scalar_shape row = Bare (Scalar row)

abbrev pub load_shape : AccessRow → Shape
load_shape row = Access (λ argument. Load row argument)

abbrev pub store_shape : AccessRow → Shape
store_shape row = Access (λ argument. Store row argument)

abbrev pub entry_code : Entry → OperatorCode
entry_code entry = entry.0

abbrev pub form_of : OperatorCode → Option Entry
form_of code = first_of entry_code form_entries code

abbrev pub or_shape : Option Shape → Option Shape → Option Shape
or_shape None other = other
or_shape (Some shape) other = Some shape

-- the shape of a code, if an operator has it
unfoldable pub shape_of : OperatorCode → Option Shape
shape_of code =
    or_shape (option_map (λ entry. entry.1) (form_of code)) (or_shape (option_map scalar_shape (row_of code))
    (or_shape (option_map load_shape (load_of code)) (option_map store_shape (store_of code))))

-- ---- operators

-- what stands after a code of this shape
abbrev pub shaped_at : Kept → Features → Option Shape → ReadingOf (Operator ℕ)
shaped_at kept features None = λ bytes. None
shaped_at kept features (Some shape) = shape_at kept features shape

abbrev pub coded_at : Kept → Features → OperatorCode → ReadingOf (Operator ℕ)
coded_at kept features code = shaped_at kept features (shape_of code)

-- an operator after its first byte
abbrev pub operator_from : Kept → Features → ℕ → ReadingOf (Operator ℕ)
operator_from kept features b rest = code_from b rest >>= λ code. coded_at kept features code.0 code.1

unfoldable pub kept_operator_at : Kept → Features → ReadingOf (Operator ℕ)
kept_operator_at kept features bytes = code_at bytes >>= λ code. coded_at kept features code.0 code.1

abbrev pub operator_at : Features → ReadingOf (Operator ℕ)
operator_at features = kept_operator_at All features

-- ---- operators whose types are kept packed

abbrev pub types_in : BlockType ℕ → List (ValType ℕ)
types_in Empty = []
types_in (Value type) = type ∷ []
types_in (Indexed index) = []

abbrev pub lone_type : List (ValType ℕ) → List (ValType ℕ)
lone_type (type ∷ []) = type ∷ []
lone_type types = []

abbrev pub packed_types : Operator ℕ → List (ValType ℕ)
packed_types (Block type) = types_in type
packed_types (Loop type) = types_in type
packed_types (If type) = types_in type
packed_types (SelectTyped types) = lone_type types
packed_types _ = []

abbrev pub indexes_in : List (ValType ℕ) → List ℕ
indexes_in [] = []
indexes_in (type ∷ types) = val_refs type ++ indexes_in types

-- the indexes in the types that are kept packed
abbrev pub packed_indexes : Operator ℕ → List ℕ
packed_indexes operator = indexes_in (packed_types operator)
