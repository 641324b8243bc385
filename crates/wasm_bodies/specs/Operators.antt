-- Operators of bodies, each with its immediates. Core Specification 3.0, Structure, "Instructions". A body is a list of operators, as in its
-- encoding: what opens a block, what parts it and what ends it are operators of their own. What is listed here is the table: the operators that are
-- judged. Outside of it are those on vectors but one, those on exceptions, tests and casts of references (`ref.test`, `ref.cast`, `br_on_cast`,
-- `br_on_cast_fail`), some on aggregates, and what proposals alone have, as atomic ones.
use Rattle.std.specs.Prelude.{ℕ, ℤ, List}
use Rattle.wasm_bodies.specs.OperatorRows.{ScalarRow, AccessRow}
use Rattle.wasm_spec.specs.Types.{HeapType, ValType}

-- what a block takes and gives (Instructions, "Control Instructions")
pub data BlockType (R : Type 0) : Type 0 where
  -- nothing
  Empty : BlockType R
  -- it takes nothing and gives one value
  Value : ValType R → BlockType R
  -- what the function type of this index says
  Indexed : ℕ → BlockType R

-- Where in a memory a load or a store goes (Instructions, "Memory Instructions"): the exponent, for the address is said to be a multiple of 2 to this
-- power; the memory's index; the offset, which is added to the address.
pub record MemoryArgument : Type 0 where
  pub exponent : ℕ
  pub memory : ℕ
  pub offset : ℕ

-- R is the kind of references that value and heap types have. Items of a module, its types too, are named by their indexes, labels by how many
-- blocks lie between, 0 being the innermost.
pub data Operator (R : Type 0) : Type 0 where
  -- ---- control ("Control Instructions")
  Unreachable : Operator R
  Nop : Operator R
  Block : BlockType R → Operator R
  Loop : BlockType R → Operator R
  If : BlockType R → Operator R
  Else : Operator R
  -- what ends a block, and the body
  End : Operator R
  Br : ℕ → Operator R
  BrIf : ℕ → Operator R
  -- the labels that are counted from 0, and the one for other numbers
  BrTable : List ℕ → ℕ → Operator R
  Return : Operator R
  -- a function
  Call : ℕ → Operator R
  -- a function type and a table
  CallIndirect : ℕ → ℕ → Operator R
  ReturnCall : ℕ → Operator R
  ReturnCallIndirect : ℕ → ℕ → Operator R
  -- a function type
  CallRef : ℕ → Operator R
  ReturnCallRef : ℕ → Operator R
  -- labels
  BrOnNull : ℕ → Operator R
  BrOnNonNull : ℕ → Operator R
  -- ---- operands of any type ("Parametric Instructions")
  Drop : Operator R
  Select : Operator R
  SelectTyped : List (ValType R) → Operator R
  -- ---- locals and globals ("Variable Instructions")
  LocalGet : ℕ → Operator R
  LocalSet : ℕ → Operator R
  LocalTee : ℕ → Operator R
  GlobalGet : ℕ → Operator R
  GlobalSet : ℕ → Operator R
  -- ---- numbers ("Numeric Instructions") and vectors ("Vector Instructions")
  -- of floats the bits, as a number, and of a vector its sixteen bytes
  I32Const : ℤ → Operator R
  I64Const : ℤ → Operator R
  F32Const : ℕ → Operator R
  F64Const : ℕ → Operator R
  V128Const : List ℕ → Operator R
  -- a row of the table of those on numbers alone
  Scalar : ScalarRow → Operator R
  -- ---- memories and data segments ("Memory Instructions")
  -- a row of a table, and where it goes
  Load : AccessRow → MemoryArgument → Operator R
  Store : AccessRow → MemoryArgument → Operator R
  MemorySize : ℕ → Operator R
  MemoryGrow : ℕ → Operator R
  MemoryFill : ℕ → Operator R
  -- the memory that is written, and the one that is read
  MemoryCopy : ℕ → ℕ → Operator R
  -- the segment, and the memory
  MemoryInit : ℕ → ℕ → Operator R
  DataDrop : ℕ → Operator R
  -- ---- tables and element segments ("Table Instructions")
  TableGet : ℕ → Operator R
  TableSet : ℕ → Operator R
  TableSize : ℕ → Operator R
  TableGrow : ℕ → Operator R
  TableFill : ℕ → Operator R
  -- the table that is written, and the one that is read
  TableCopy : ℕ → ℕ → Operator R
  -- the segment, and the table
  TableInit : ℕ → ℕ → Operator R
  ElemDrop : ℕ → Operator R
  -- ---- references ("Reference Instructions")
  RefNull : HeapType R → Operator R
  RefIsNull : Operator R
  -- a function
  RefFunc : ℕ → Operator R
  RefEq : Operator R
  RefAsNonNull : Operator R
  -- ---- structures and arrays, by the index of their type ("Aggregate Instructions")
  StructNew : ℕ → Operator R
  StructNewDefault : ℕ → Operator R
  ArrayNew : ℕ → Operator R
  ArrayNewDefault : ℕ → Operator R
  -- of fixed length, which comes second
  ArrayNewFixed : ℕ → ℕ → Operator R
  RefI31 : Operator R
  AnyConvertExtern : Operator R
  ExternConvertAny : Operator R
