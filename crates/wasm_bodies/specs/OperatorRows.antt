-- The operators that come in many forms of one kind, as tables: those on numbers alone, and plain loads and stores. Grammar, typing and gates
-- all cite the row. Core Specification 3.0, Binary Format, Instructions, "Numeric Instructions" and "Memory Instructions", and Validation,
-- Instructions, under the same names; the flags are those of the proposals that brought operators ("Change History").
use Rattle.std.specs.Prelude.{ℕ, zero, suc, Bool, true, false, List, [], ◌∷◌, ◌++◌, nat_eq, ◌&&◌}
use Rattle.wasm_spec.specs.Features.{Flag, SaturatingFloatToInt, SignExtension}
use Rattle.wasm_spec.specs.Types.{ValType, I32, I64, F32, F64}

-- (Structure, Types, "Number Types")
pub data NumberType : Type 0 where
  Int32 : NumberType
  Int64 : NumberType
  Float32 : NumberType
  Float64 : NumberType

abbrev pub value_type : {R : Type 0} → NumberType → ValType R
value_type Int32 = I32
value_type Int64 = I64
value_type Float32 = F32
value_type Float64 = F64

abbrev pub is_float : NumberType → Bool
is_float Int32 = false
is_float Int64 = false
is_float Float32 = true
is_float Float64 = true

-- What an operator begins with, and what tells it from others: a byte, or a byte that is a prefix and a second code.
pub data OperatorCode : Type 0 where
  Byte : ℕ → OperatorCode
  Prefixed : ℕ → ℕ → OperatorCode

abbrev pub is_same_code : OperatorCode → OperatorCode → Bool
is_same_code (Byte a) (Byte b) = nat_eq a b
is_same_code (Prefixed p a) (Prefixed q b) = nat_eq p q && nat_eq a b
is_same_code (Byte a) (Prefixed q b) = false
is_same_code (Prefixed p a) (Byte b) = false

-- ---- numbers alone

-- An operator on numbers: what it takes, in the order of pushing, what it gives, and the flags that it asks for, that of floats aside.
pub record ScalarRow : Type 0 where
  pub code : OperatorCode
  pub takes : List NumberType
  pub gives : NumberType
  pub gate : List Flag

-- as many operators of one form as is said, whose codes follow one another from this byte on
abbrev pub rows_from : ℕ → ℕ → List NumberType → NumberType → List Flag → List ScalarRow
rows_from first zero takes gives gate = []
rows_from first (suc n) takes gives gate = record { code = Byte first; takes = takes; gives = gives; gate = gate } ∷ rows_from (suc first) n takes gives gate

-- the same with second codes after the prefix 0xfc
abbrev pub rows_after : ℕ → ℕ → List NumberType → NumberType → List Flag → List ScalarRow
rows_after first zero takes gives gate = []
rows_after first (suc n) takes gives gate =
    record { code = Prefixed 0xfc first; takes = takes; gives = gives; gate = gate } ∷ rows_after (suc first) n takes gives gate

-- a test of a number, comparisons, operators of one operand and of two, and conversions
abbrev pub test_row : ℕ → NumberType → List ScalarRow
test_row code type = rows_from code 1 (type ∷ []) Int32 []

abbrev pub comparisons : ℕ → ℕ → NumberType → List ScalarRow
comparisons first n type = rows_from first n (type ∷ type ∷ []) Int32 []

abbrev pub unary : ℕ → ℕ → NumberType → List ScalarRow
unary first n type = rows_from first n (type ∷ []) type []

abbrev pub binary : ℕ → ℕ → NumberType → List ScalarRow
binary first n type = rows_from first n (type ∷ type ∷ []) type []

abbrev pub conversions : ℕ → ℕ → NumberType → NumberType → List ScalarRow
conversions first n from to = rows_from first n (from ∷ []) to []

-- eqz; eq ne lt_s lt_u gt_s gt_u le_s le_u ge_s ge_u; for floats eq ne lt gt le ge
abbrev pub comparison_rows : List ScalarRow
comparison_rows =
    test_row 0x45 Int32 ++ comparisons 0x46 10 Int32
    ++ (test_row 0x50 Int64 ++ comparisons 0x51 10 Int64
    ++ (comparisons 0x5b 6 Float32 ++ comparisons 0x61 6 Float64))

-- clz ctz popcnt; add sub mul div_s div_u rem_s rem_u and or xor shl shr_s shr_u rotl rotr;
-- for floats abs neg ceil floor trunc nearest sqrt; add sub mul div min max copysign
abbrev pub arithmetic_rows : List ScalarRow
arithmetic_rows =
    unary 0x67 3 Int32 ++ binary 0x6a 15 Int32
    ++ (unary 0x79 3 Int64 ++ binary 0x7c 15 Int64
    ++ (unary 0x8b 7 Float32 ++ binary 0x92 7 Float32
    ++ (unary 0x99 7 Float64 ++ binary 0xa0 7 Float64)))

abbrev pub conversion_rows : List ScalarRow
conversion_rows =
    -- i32.wrap_i64, i32.trunc_f32 s u, i32.trunc_f64 s u
    conversions 0xa7 1 Int64 Int32 ++ conversions 0xa8 2 Float32 Int32 ++ conversions 0xaa 2 Float64 Int32
    -- i64.extend_i32 s u, i64.trunc_f32 s u, i64.trunc_f64 s u
    ++ (conversions 0xac 2 Int32 Int64 ++ conversions 0xae 2 Float32 Int64 ++ conversions 0xb0 2 Float64 Int64
    -- f32.convert_i32 s u, f32.convert_i64 s u, f32.demote_f64
    ++ (conversions 0xb2 2 Int32 Float32 ++ conversions 0xb4 2 Int64 Float32 ++ conversions 0xb6 1 Float64 Float32
    -- f64.convert_i32 s u, f64.convert_i64 s u, f64.promote_f32
    ++ (conversions 0xb7 2 Int32 Float64 ++ conversions 0xb9 2 Int64 Float64 ++ conversions 0xbb 1 Float32 Float64
    -- i32.reinterpret_f32, i64.reinterpret_f64, f32.reinterpret_i32, f64.reinterpret_i64
    ++ (conversions 0xbc 1 Float32 Int32 ++ conversions 0xbd 1 Float64 Int64 ++ conversions 0xbe 1 Int32 Float32 ++ conversions 0xbf 1 Int64 Float64))))

-- i32.extend8_s, i32.extend16_s; i64.extend8_s, i64.extend16_s, i64.extend32_s
abbrev pub extension_rows : List ScalarRow
extension_rows = rows_from 0xc0 2 (Int32 ∷ []) Int32 (SignExtension ∷ []) ++ rows_from 0xc2 3 (Int64 ∷ []) Int64 (SignExtension ∷ [])

-- i32.trunc_sat_f32 s u, i32.trunc_sat_f64 s u; i64.trunc_sat_f32 s u, i64.trunc_sat_f64 s u
abbrev pub saturating_rows : List ScalarRow
saturating_rows =
    rows_after 0 2 (Float32 ∷ []) Int32 (SaturatingFloatToInt ∷ []) ++ rows_after 2 2 (Float64 ∷ []) Int32 (SaturatingFloatToInt ∷ [])
    ++ (rows_after 4 2 (Float32 ∷ []) Int64 (SaturatingFloatToInt ∷ []) ++ rows_after 6 2 (Float64 ∷ []) Int64 (SaturatingFloatToInt ∷ []))

abbrev pub scalar_rows : List ScalarRow
scalar_rows = comparison_rows ++ (arithmetic_rows ++ (conversion_rows ++ (extension_rows ++ saturating_rows)))

-- ---- loads and stores

-- An operator that loads a number or stores one: the code, the number's type, and which power of two its width in memory is, in bytes. An access
-- is aligned at most so.
pub record AccessRow : Type 0 where
  pub code : ℕ
  pub type : NumberType
  pub exponent : ℕ

abbrev pub access : ℕ → NumberType → ℕ → AccessRow
access code type exponent = record { code = code; type = type; exponent = exponent }

abbrev pub load_rows : List AccessRow
load_rows =
    -- i32.load, i64.load, f32.load, f64.load
    access 0x28 Int32 2 ∷ access 0x29 Int64 3 ∷ access 0x2a Float32 2 ∷ access 0x2b Float64 3
    -- i32.load8 s u, i32.load16 s u
    ∷ access 0x2c Int32 0 ∷ access 0x2d Int32 0 ∷ access 0x2e Int32 1 ∷ access 0x2f Int32 1
    -- i64.load8 s u, i64.load16 s u, i64.load32 s u
    ∷ access 0x30 Int64 0 ∷ access 0x31 Int64 0 ∷ access 0x32 Int64 1 ∷ access 0x33 Int64 1 ∷ access 0x34 Int64 2 ∷ access 0x35 Int64 2 ∷ []

abbrev pub store_rows : List AccessRow
store_rows =
    -- i32.store, i64.store, f32.store, f64.store
    access 0x36 Int32 2 ∷ access 0x37 Int64 3 ∷ access 0x38 Float32 2 ∷ access 0x39 Float64 3
    -- i32.store8, i32.store16, i64.store8, i64.store16, i64.store32
    ∷ access 0x3a Int32 0 ∷ access 0x3b Int32 1 ∷ access 0x3c Int64 0 ∷ access 0x3d Int64 1 ∷ access 0x3e Int64 2 ∷ []
