-- Constant expressions: the lists of their operators, without the end. Core Specification 3.0, Structure, "Instructions" (expressions), and
-- Validation, Instructions, "Expressions" (constant expressions). An operator that isn't constant has no case here.
use Rattle.std.specs.Prelude.{ℕ, ℤ, List}
use Rattle.wasm_spec.specs.Types.{HeapType}

pub data ConstantOperator : Type 0 where
  I32Const : ℤ → ConstantOperator
  I64Const : ℤ → ConstantOperator
  -- of floats the bits, as a number
  F32Const : ℕ → ConstantOperator
  F64Const : ℕ → ConstantOperator
  -- sixteen bytes, as they stand in the encoding
  V128Const : List ℕ → ConstantOperator
  RefNull : HeapType ℕ → ConstantOperator
  -- a function index
  RefFunc : ℕ → ConstantOperator
  -- a global index
  GlobalGet : ℕ → ConstantOperator
  I32Add : ConstantOperator
  I32Sub : ConstantOperator
  I32Mul : ConstantOperator
  I64Add : ConstantOperator
  I64Sub : ConstantOperator
  I64Mul : ConstantOperator
  -- these of structures and arrays have a type index, and that of fixed length the length too
  StructNew : ℕ → ConstantOperator
  StructNewDefault : ℕ → ConstantOperator
  ArrayNew : ℕ → ConstantOperator
  ArrayNewDefault : ℕ → ConstantOperator
  ArrayNewFixed : ℕ → ℕ → ConstantOperator
  AnyConvertExtern : ConstantOperator
  ExternConvertAny : ConstantOperator
  RefI31 : ConstantOperator

abbrev pub ConstantExpression : Type 0
ConstantExpression = List ConstantOperator
