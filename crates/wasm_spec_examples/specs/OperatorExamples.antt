-- Operators that worked examples share.
use Rattle.std.specs.Prelude.{ℕ, zero, suc, pos, Bool, true, not, ◌&&◌, List, [], ◌∷◌, ◌++◌, map}
use Rattle.std.specs.List.{AllByRecursion, filter, list_any}
use Rattle.wasm_bodies.specs.OperatorGates.{gate_of}
use Rattle.wasm_bodies.specs.OperatorGrammar.{code_of}
use Rattle.wasm_bodies.specs.OperatorRows.{NumberType, Int32, Int64, Float32, Float64, OperatorCode, Byte, Prefixed, is_same_code, ScalarRow, AccessRow, scalar_rows, value_type}
use Rattle.wasm_bodies.specs.Operators.{MemoryArgument, Operator, Unreachable, Nop, I32Const, I64Const, F32Const, F64Const, Scalar, Load, Store, RefNull}
use Rattle.wasm_spec.specs.Features.{Flag}
use Rattle.wasm_spec.specs.Types.{Func, Extern, Abstract, ValType}
use Rattle.wasm_spec_examples.specs.BodyExamples.{Gives, GivesNot, GivesWith}

-- numbers and null
abbrev pub i32 : Operator ℕ
i32 = I32Const (pos 7)

abbrev pub i64 : Operator ℕ
i64 = I64Const (pos 7)

abbrev pub f32 : Operator ℕ
f32 = F32Const 0

abbrev pub f64 : Operator ℕ
f64 = F64Const 0

abbrev pub null : Operator ℕ
null = RefNull (Abstract Func)

abbrev pub null_external : Operator ℕ
null_external = RefNull (Abstract Extern)

-- ---- rows

abbrev pub constant_of : NumberType → Operator ℕ
constant_of Int32 = i32
constant_of Int64 = i64
constant_of Float32 = f32
constant_of Float64 = f64

-- another type
abbrev pub other_than : NumberType → NumberType
other_than Int32 = Int64
other_than Int64 = Float32
other_than Float32 = Float64
other_than Float64 = Int32

-- operands for a row, and the same with the first one of another type
abbrev pub operands_of : ScalarRow → List (Operator ℕ)
operands_of row = map constant_of row.takes

abbrev pub wrong_operands : List NumberType → List (Operator ℕ)
wrong_operands [] = []
wrong_operands (type ∷ types) = constant_of (other_than type) ∷ map constant_of types

-- the row of numbers with this code
abbrev pub row_at : OperatorCode → Operator ℕ
row_at code = first (filter (λ row. is_same_code row.code code) scalar_rows)
  where
    first : List ScalarRow → Operator ℕ
    first [] = Nop
    first (row ∷ rows) = Scalar row

abbrev pub scalar : ℕ → Operator ℕ
scalar code = row_at (Byte code)

abbrev pub saturating : ℕ → Operator ℕ
saturating code = row_at (Prefixed 0xfc code)

-- so many numbers from this one on
abbrev pub counted_from : ℕ → ℕ → List ℕ
counted_from first zero = []
counted_from first (suc n) = first ∷ counted_from (suc first) n

abbrev pub codes_of : List (Operator ℕ) → List OperatorCode
codes_of operators = map code_of operators

abbrev pub gates_of : List (Operator ℕ) → List (List Flag)
gates_of operators = map gate_of operators

-- no code stands twice
abbrev pub are_distinct : List OperatorCode → Bool
are_distinct [] = true
are_distinct (code ∷ codes) = not (list_any (is_same_code code) codes) && are_distinct codes

-- the operators ask for each of the flags
abbrev pub AreAskedFor : List Flag → List (ValType ℕ) → List (Operator ℕ) → Type 0
AreAskedFor flags results operators = AllByRecursion (λ flag. GivesWith flag results operators) flags

-- a row takes numbers of its types, and no others, and each flag of its gate is asked for
pub record IsRightRow (row : ScalarRow) : Type 0 where
  pub right : Gives (value_type row.gives ∷ []) (operands_of row ++ Scalar row ∷ [])
  pub wrong : GivesNot (value_type row.gives ∷ []) (wrong_operands row.takes ++ Scalar row ∷ [])
  pub nothing : GivesNot [] (operands_of row ++ Scalar row ∷ [])
  pub gated : AreAskedFor (gate_of {R = ℕ} (Scalar row)) (value_type row.gives ∷ []) (Unreachable ∷ Scalar row ∷ [])

-- ---- loads and stores

abbrev pub access_at : ℕ → ℕ → ℕ → MemoryArgument
access_at exponent memory offset = record { exponent = exponent; memory = memory; offset = offset }

-- From the first memory, and with long addresses from the second: as aligned as the access is wide, and one more; of the last offset, and past it.
pub record IsRightLoad (row : AccessRow) : Type 0 where
  pub first : Gives (value_type row.type ∷ []) (i32 ∷ Load row (access_at row.exponent 0 4294967295) ∷ [])
  pub second : Gives (value_type row.type ∷ []) (i64 ∷ Load row (access_at 0 1 4294967296) ∷ [])
  pub long_address : GivesNot (value_type row.type ∷ []) (i64 ∷ Load row (access_at 0 0 0) ∷ [])
  pub aligned_past : GivesNot (value_type row.type ∷ []) (i32 ∷ Load row (access_at (suc row.exponent) 0 0) ∷ [])
  pub offset_past : GivesNot (value_type row.type ∷ []) (i32 ∷ Load row (access_at 0 0 4294967296) ∷ [])
  pub no_memory : GivesNot (value_type row.type ∷ []) (i32 ∷ Load row (access_at 0 2 0) ∷ [])
  pub gated : AreAskedFor (gate_of {R = ℕ} (Load row (access_at 0 0 0))) (value_type row.type ∷ []) (i32 ∷ Load row (access_at 0 0 0) ∷ [])

pub record IsRightStore (row : AccessRow) : Type 0 where
  pub first : Gives [] (i32 ∷ constant_of row.type ∷ Store row (access_at row.exponent 0 4294967295) ∷ [])
  pub second : Gives [] (i64 ∷ constant_of row.type ∷ Store row (access_at 0 1 4294967296) ∷ [])
  pub other_type : GivesNot [] (i32 ∷ constant_of (other_than row.type) ∷ Store row (access_at 0 0 0) ∷ [])
  pub aligned_past : GivesNot [] (i32 ∷ constant_of row.type ∷ Store row (access_at (suc row.exponent) 0 0) ∷ [])
  pub offset_past : GivesNot [] (i32 ∷ constant_of row.type ∷ Store row (access_at 0 0 4294967296) ∷ [])
  pub no_memory : GivesNot [] (i32 ∷ constant_of row.type ∷ Store row (access_at 0 2 0) ∷ [])
  pub gated : AreAskedFor (gate_of {R = ℕ} (Store row (access_at 0 0 0))) [] (Unreachable ∷ Store row (access_at 0 0 0) ∷ [])
