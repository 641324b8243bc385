-- Instructions on numbers alone, each as its row of the table of operators.
use Rattle.std.specs.Prelude.{ℕ, List, [], ◌∷◌, if◌then◌else◌}
use Rattle.wasm_bodies.specs.OperatorRows.{OperatorCode, Byte, Prefixed, is_same_code, Int32, ScalarRow, scalar_rows}
use Rattle.wasm_core_types.specs.declared.scalar_operator.ScalarOperator.{ScalarOperator}
use Rattle.wasm_core_types.specs.declared.scalar_operator.ScalarOperator.TheVariants as scalars

-- the first row of a code, or else one that is in no table
abbrev pub first_row : List ScalarRow → OperatorCode → ScalarRow
first_row [] code = record { code = Byte 0; takes = []; gives = Int32; gate = [] }
first_row (row ∷ rows) code = if is_same_code code row.code then row else first_row rows code

unfoldable pub row_of : OperatorCode → ScalarRow
row_of code = first_row scalar_rows code

abbrev row_at : ℕ → ScalarRow
row_at code = row_of (Byte code)

abbrev saturating : ℕ → ScalarRow
saturating code = row_of (Prefixed 0xfc code)

abbrev pub scalar_row : ScalarOperator → ScalarRow
scalar_row scalars.I32Eqz = row_at 0x45
scalar_row scalars.I32Eq = row_at 0x46
scalar_row scalars.I32Ne = row_at 0x47
scalar_row scalars.I32LtS = row_at 0x48
scalar_row scalars.I32LtU = row_at 0x49
scalar_row scalars.I32GtS = row_at 0x4a
scalar_row scalars.I32GtU = row_at 0x4b
scalar_row scalars.I32LeS = row_at 0x4c
scalar_row scalars.I32LeU = row_at 0x4d
scalar_row scalars.I32GeS = row_at 0x4e
scalar_row scalars.I32GeU = row_at 0x4f
scalar_row scalars.I64Eqz = row_at 0x50
scalar_row scalars.I64Eq = row_at 0x51
scalar_row scalars.I64Ne = row_at 0x52
scalar_row scalars.I64LtS = row_at 0x53
scalar_row scalars.I64LtU = row_at 0x54
scalar_row scalars.I64GtS = row_at 0x55
scalar_row scalars.I64GtU = row_at 0x56
scalar_row scalars.I64LeS = row_at 0x57
scalar_row scalars.I64LeU = row_at 0x58
scalar_row scalars.I64GeS = row_at 0x59
scalar_row scalars.I64GeU = row_at 0x5a
scalar_row scalars.F32Eq = row_at 0x5b
scalar_row scalars.F32Ne = row_at 0x5c
scalar_row scalars.F32Lt = row_at 0x5d
scalar_row scalars.F32Gt = row_at 0x5e
scalar_row scalars.F32Le = row_at 0x5f
scalar_row scalars.F32Ge = row_at 0x60
scalar_row scalars.F64Eq = row_at 0x61
scalar_row scalars.F64Ne = row_at 0x62
scalar_row scalars.F64Lt = row_at 0x63
scalar_row scalars.F64Gt = row_at 0x64
scalar_row scalars.F64Le = row_at 0x65
scalar_row scalars.F64Ge = row_at 0x66
scalar_row scalars.I32Clz = row_at 0x67
scalar_row scalars.I32Ctz = row_at 0x68
scalar_row scalars.I32Popcnt = row_at 0x69
scalar_row scalars.I32Add = row_at 0x6a
scalar_row scalars.I32Sub = row_at 0x6b
scalar_row scalars.I32Mul = row_at 0x6c
scalar_row scalars.I32DivS = row_at 0x6d
scalar_row scalars.I32DivU = row_at 0x6e
scalar_row scalars.I32RemS = row_at 0x6f
scalar_row scalars.I32RemU = row_at 0x70
scalar_row scalars.I32And = row_at 0x71
scalar_row scalars.I32Or = row_at 0x72
scalar_row scalars.I32Xor = row_at 0x73
scalar_row scalars.I32Shl = row_at 0x74
scalar_row scalars.I32ShrS = row_at 0x75
scalar_row scalars.I32ShrU = row_at 0x76
scalar_row scalars.I32Rotl = row_at 0x77
scalar_row scalars.I32Rotr = row_at 0x78
scalar_row scalars.I64Clz = row_at 0x79
scalar_row scalars.I64Ctz = row_at 0x7a
scalar_row scalars.I64Popcnt = row_at 0x7b
scalar_row scalars.I64Add = row_at 0x7c
scalar_row scalars.I64Sub = row_at 0x7d
scalar_row scalars.I64Mul = row_at 0x7e
scalar_row scalars.I64DivS = row_at 0x7f
scalar_row scalars.I64DivU = row_at 0x80
scalar_row scalars.I64RemS = row_at 0x81
scalar_row scalars.I64RemU = row_at 0x82
scalar_row scalars.I64And = row_at 0x83
scalar_row scalars.I64Or = row_at 0x84
scalar_row scalars.I64Xor = row_at 0x85
scalar_row scalars.I64Shl = row_at 0x86
scalar_row scalars.I64ShrS = row_at 0x87
scalar_row scalars.I64ShrU = row_at 0x88
scalar_row scalars.I64Rotl = row_at 0x89
scalar_row scalars.I64Rotr = row_at 0x8a
scalar_row scalars.F32Abs = row_at 0x8b
scalar_row scalars.F32Neg = row_at 0x8c
scalar_row scalars.F32Ceil = row_at 0x8d
scalar_row scalars.F32Floor = row_at 0x8e
scalar_row scalars.F32Trunc = row_at 0x8f
scalar_row scalars.F32Nearest = row_at 0x90
scalar_row scalars.F32Sqrt = row_at 0x91
scalar_row scalars.F32Add = row_at 0x92
scalar_row scalars.F32Sub = row_at 0x93
scalar_row scalars.F32Mul = row_at 0x94
scalar_row scalars.F32Div = row_at 0x95
scalar_row scalars.F32Min = row_at 0x96
scalar_row scalars.F32Max = row_at 0x97
scalar_row scalars.F32Copysign = row_at 0x98
scalar_row scalars.F64Abs = row_at 0x99
scalar_row scalars.F64Neg = row_at 0x9a
scalar_row scalars.F64Ceil = row_at 0x9b
scalar_row scalars.F64Floor = row_at 0x9c
scalar_row scalars.F64Trunc = row_at 0x9d
scalar_row scalars.F64Nearest = row_at 0x9e
scalar_row scalars.F64Sqrt = row_at 0x9f
scalar_row scalars.F64Add = row_at 0xa0
scalar_row scalars.F64Sub = row_at 0xa1
scalar_row scalars.F64Mul = row_at 0xa2
scalar_row scalars.F64Div = row_at 0xa3
scalar_row scalars.F64Min = row_at 0xa4
scalar_row scalars.F64Max = row_at 0xa5
scalar_row scalars.F64Copysign = row_at 0xa6
scalar_row scalars.I32WrapI64 = row_at 0xa7
scalar_row scalars.I32TruncF32S = row_at 0xa8
scalar_row scalars.I32TruncF32U = row_at 0xa9
scalar_row scalars.I32TruncF64S = row_at 0xaa
scalar_row scalars.I32TruncF64U = row_at 0xab
scalar_row scalars.I64ExtendI32S = row_at 0xac
scalar_row scalars.I64ExtendI32U = row_at 0xad
scalar_row scalars.I64TruncF32S = row_at 0xae
scalar_row scalars.I64TruncF32U = row_at 0xaf
scalar_row scalars.I64TruncF64S = row_at 0xb0
scalar_row scalars.I64TruncF64U = row_at 0xb1
scalar_row scalars.F32ConvertI32S = row_at 0xb2
scalar_row scalars.F32ConvertI32U = row_at 0xb3
scalar_row scalars.F32ConvertI64S = row_at 0xb4
scalar_row scalars.F32ConvertI64U = row_at 0xb5
scalar_row scalars.F32DemoteF64 = row_at 0xb6
scalar_row scalars.F64ConvertI32S = row_at 0xb7
scalar_row scalars.F64ConvertI32U = row_at 0xb8
scalar_row scalars.F64ConvertI64S = row_at 0xb9
scalar_row scalars.F64ConvertI64U = row_at 0xba
scalar_row scalars.F64PromoteF32 = row_at 0xbb
scalar_row scalars.I32ReinterpretF32 = row_at 0xbc
scalar_row scalars.I64ReinterpretF64 = row_at 0xbd
scalar_row scalars.F32ReinterpretI32 = row_at 0xbe
scalar_row scalars.F64ReinterpretI64 = row_at 0xbf
scalar_row scalars.I32Extend8S = row_at 0xc0
scalar_row scalars.I32Extend16S = row_at 0xc1
scalar_row scalars.I64Extend8S = row_at 0xc2
scalar_row scalars.I64Extend16S = row_at 0xc3
scalar_row scalars.I64Extend32S = row_at 0xc4
scalar_row scalars.I32TruncSatF32S = saturating 0
scalar_row scalars.I32TruncSatF32U = saturating 1
scalar_row scalars.I32TruncSatF64S = saturating 2
scalar_row scalars.I32TruncSatF64U = saturating 3
scalar_row scalars.I64TruncSatF32S = saturating 4
scalar_row scalars.I64TruncSatF32U = saturating 5
scalar_row scalars.I64TruncSatF64S = saturating 6
scalar_row scalars.I64TruncSatF64U = saturating 7
