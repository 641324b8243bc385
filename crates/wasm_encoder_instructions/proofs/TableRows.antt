-- Instructions of tables are rows of these.
use Rattle.std.proofs.Common.{◌≡◌, ◌<◌, ◌^◌, ℕ, suc, ℤ, length, Bool, true, false, eqb, List, [], ◌∷◌, refl, arith, inl, inr, ◌⊎◌, Fits, w32, get_or}
use Rattle.std.specs.List.{AllByRecursion, Contains, list_any}
use Rattle.wasm_bodies.specs.OperatorRows.{OperatorCode, Byte, Prefixed, is_same_code, ScalarRow, AccessRow, scalar_rows, load_rows, store_rows}
use Rattle.wasm_encoder_instructions.specs.AlignedInstructions.{IsAligned}
use Rattle.wasm_encoder_instructions.specs.Instructions.{first_access, operator, vector_bytes}
use Rattle.wasm_encoder_instructions.specs.SmallOperators.{IsSmallOperator}
use Rattle.wasm_encoder_instructions.specs.declared.instruction.Instruction.{Instruction}
use Rattle.wasm_encoder_instructions.specs.declared.instruction.Instruction.TheVariants as instructions
use Rattle.wasm_encoder_instructions.specs.declared.mem_arg.MemArg.{MemArg}
use Rattle.wasm_spec.specs.Bytes.{AreBytes}
use Rattle.wasm_encoder_instructions.specs.ScalarRows.{first_row, row_of, scalar_row}
use Rattle.wasm_core_types.specs.declared.scalar_operator.ScalarOperator.{ScalarOperator}
use Rattle.wasm_core_types.specs.declared.scalar_operator.ScalarOperator.TheVariants as scalars
use Rattle.wasm_spec.specs.SmallIndexes.{IsSmallIndex}

either : (b : Bool) → (b ≡ true) ⊎ (b ≡ false)
either true = inl refl
either false = inr refl

later : {X : Type 0} (xs : List X) (y x : X) → Contains xs x → Contains (y ∷ xs) x
later xs y x h = (suc h.0, omega (arith, h.1), h.2)

row_in : (rows : List ScalarRow) (code : OperatorCode) → list_any (λ row. is_same_code code row.code) rows ≡ true → Contains rows (first_row rows code)
row_in [] code e = absurd cc
row_in (row ∷ rows) code e = elim (either (is_same_code code row.code)) [
  | inl t ↦ rw t (0, omega arith, refl)
  | inr t ↦ rw t (later rows row (first_row rows code) (row_in rows code (rw t at e)))
]

access_in : (rows : List AccessRow) (code : ℕ) → list_any (λ row. eqb code row.code) rows ≡ true → Contains rows (first_access rows code)
access_in [] code e = absurd cc
access_in (row ∷ rows) code e = elim (either (eqb code row.code)) [
  | inl t ↦ rw t (0, omega arith, refl)
  | inr t ↦ rw t (later rows row (first_access rows code) (access_in rows code (rw t at e)))
]

row_at : (code : OperatorCode) → list_any (λ row. is_same_code code row.code) scalar_rows ≡ true → Contains scalar_rows (row_of code)
unfolding row_of
row_at code e = row_in scalar_rows code e

pub scalar_in : (it : ScalarOperator) → Contains scalar_rows (scalar_row it)
scalar_in scalars.I32Eqz = row_at (Byte 0x45) refl
scalar_in scalars.I32Eq = row_at (Byte 0x46) refl
scalar_in scalars.I32Ne = row_at (Byte 0x47) refl
scalar_in scalars.I32LtS = row_at (Byte 0x48) refl
scalar_in scalars.I32LtU = row_at (Byte 0x49) refl
scalar_in scalars.I32GtS = row_at (Byte 0x4a) refl
scalar_in scalars.I32GtU = row_at (Byte 0x4b) refl
scalar_in scalars.I32LeS = row_at (Byte 0x4c) refl
scalar_in scalars.I32LeU = row_at (Byte 0x4d) refl
scalar_in scalars.I32GeS = row_at (Byte 0x4e) refl
scalar_in scalars.I32GeU = row_at (Byte 0x4f) refl
scalar_in scalars.I64Eqz = row_at (Byte 0x50) refl
scalar_in scalars.I64Eq = row_at (Byte 0x51) refl
scalar_in scalars.I64Ne = row_at (Byte 0x52) refl
scalar_in scalars.I64LtS = row_at (Byte 0x53) refl
scalar_in scalars.I64LtU = row_at (Byte 0x54) refl
scalar_in scalars.I64GtS = row_at (Byte 0x55) refl
scalar_in scalars.I64GtU = row_at (Byte 0x56) refl
scalar_in scalars.I64LeS = row_at (Byte 0x57) refl
scalar_in scalars.I64LeU = row_at (Byte 0x58) refl
scalar_in scalars.I64GeS = row_at (Byte 0x59) refl
scalar_in scalars.I64GeU = row_at (Byte 0x5a) refl
scalar_in scalars.F32Eq = row_at (Byte 0x5b) refl
scalar_in scalars.F32Ne = row_at (Byte 0x5c) refl
scalar_in scalars.F32Lt = row_at (Byte 0x5d) refl
scalar_in scalars.F32Gt = row_at (Byte 0x5e) refl
scalar_in scalars.F32Le = row_at (Byte 0x5f) refl
scalar_in scalars.F32Ge = row_at (Byte 0x60) refl
scalar_in scalars.F64Eq = row_at (Byte 0x61) refl
scalar_in scalars.F64Ne = row_at (Byte 0x62) refl
scalar_in scalars.F64Lt = row_at (Byte 0x63) refl
scalar_in scalars.F64Gt = row_at (Byte 0x64) refl
scalar_in scalars.F64Le = row_at (Byte 0x65) refl
scalar_in scalars.F64Ge = row_at (Byte 0x66) refl
scalar_in scalars.I32Clz = row_at (Byte 0x67) refl
scalar_in scalars.I32Ctz = row_at (Byte 0x68) refl
scalar_in scalars.I32Popcnt = row_at (Byte 0x69) refl
scalar_in scalars.I32Add = row_at (Byte 0x6a) refl
scalar_in scalars.I32Sub = row_at (Byte 0x6b) refl
scalar_in scalars.I32Mul = row_at (Byte 0x6c) refl
scalar_in scalars.I32DivS = row_at (Byte 0x6d) refl
scalar_in scalars.I32DivU = row_at (Byte 0x6e) refl
scalar_in scalars.I32RemS = row_at (Byte 0x6f) refl
scalar_in scalars.I32RemU = row_at (Byte 0x70) refl
scalar_in scalars.I32And = row_at (Byte 0x71) refl
scalar_in scalars.I32Or = row_at (Byte 0x72) refl
scalar_in scalars.I32Xor = row_at (Byte 0x73) refl
scalar_in scalars.I32Shl = row_at (Byte 0x74) refl
scalar_in scalars.I32ShrS = row_at (Byte 0x75) refl
scalar_in scalars.I32ShrU = row_at (Byte 0x76) refl
scalar_in scalars.I32Rotl = row_at (Byte 0x77) refl
scalar_in scalars.I32Rotr = row_at (Byte 0x78) refl
scalar_in scalars.I64Clz = row_at (Byte 0x79) refl
scalar_in scalars.I64Ctz = row_at (Byte 0x7a) refl
scalar_in scalars.I64Popcnt = row_at (Byte 0x7b) refl
scalar_in scalars.I64Add = row_at (Byte 0x7c) refl
scalar_in scalars.I64Sub = row_at (Byte 0x7d) refl
scalar_in scalars.I64Mul = row_at (Byte 0x7e) refl
scalar_in scalars.I64DivS = row_at (Byte 0x7f) refl
scalar_in scalars.I64DivU = row_at (Byte 0x80) refl
scalar_in scalars.I64RemS = row_at (Byte 0x81) refl
scalar_in scalars.I64RemU = row_at (Byte 0x82) refl
scalar_in scalars.I64And = row_at (Byte 0x83) refl
scalar_in scalars.I64Or = row_at (Byte 0x84) refl
scalar_in scalars.I64Xor = row_at (Byte 0x85) refl
scalar_in scalars.I64Shl = row_at (Byte 0x86) refl
scalar_in scalars.I64ShrS = row_at (Byte 0x87) refl
scalar_in scalars.I64ShrU = row_at (Byte 0x88) refl
scalar_in scalars.I64Rotl = row_at (Byte 0x89) refl
scalar_in scalars.I64Rotr = row_at (Byte 0x8a) refl
scalar_in scalars.F32Abs = row_at (Byte 0x8b) refl
scalar_in scalars.F32Neg = row_at (Byte 0x8c) refl
scalar_in scalars.F32Ceil = row_at (Byte 0x8d) refl
scalar_in scalars.F32Floor = row_at (Byte 0x8e) refl
scalar_in scalars.F32Trunc = row_at (Byte 0x8f) refl
scalar_in scalars.F32Nearest = row_at (Byte 0x90) refl
scalar_in scalars.F32Sqrt = row_at (Byte 0x91) refl
scalar_in scalars.F32Add = row_at (Byte 0x92) refl
scalar_in scalars.F32Sub = row_at (Byte 0x93) refl
scalar_in scalars.F32Mul = row_at (Byte 0x94) refl
scalar_in scalars.F32Div = row_at (Byte 0x95) refl
scalar_in scalars.F32Min = row_at (Byte 0x96) refl
scalar_in scalars.F32Max = row_at (Byte 0x97) refl
scalar_in scalars.F32Copysign = row_at (Byte 0x98) refl
scalar_in scalars.F64Abs = row_at (Byte 0x99) refl
scalar_in scalars.F64Neg = row_at (Byte 0x9a) refl
scalar_in scalars.F64Ceil = row_at (Byte 0x9b) refl
scalar_in scalars.F64Floor = row_at (Byte 0x9c) refl
scalar_in scalars.F64Trunc = row_at (Byte 0x9d) refl
scalar_in scalars.F64Nearest = row_at (Byte 0x9e) refl
scalar_in scalars.F64Sqrt = row_at (Byte 0x9f) refl
scalar_in scalars.F64Add = row_at (Byte 0xa0) refl
scalar_in scalars.F64Sub = row_at (Byte 0xa1) refl
scalar_in scalars.F64Mul = row_at (Byte 0xa2) refl
scalar_in scalars.F64Div = row_at (Byte 0xa3) refl
scalar_in scalars.F64Min = row_at (Byte 0xa4) refl
scalar_in scalars.F64Max = row_at (Byte 0xa5) refl
scalar_in scalars.F64Copysign = row_at (Byte 0xa6) refl
scalar_in scalars.I32WrapI64 = row_at (Byte 0xa7) refl
scalar_in scalars.I32TruncF32S = row_at (Byte 0xa8) refl
scalar_in scalars.I32TruncF32U = row_at (Byte 0xa9) refl
scalar_in scalars.I32TruncF64S = row_at (Byte 0xaa) refl
scalar_in scalars.I32TruncF64U = row_at (Byte 0xab) refl
scalar_in scalars.I64ExtendI32S = row_at (Byte 0xac) refl
scalar_in scalars.I64ExtendI32U = row_at (Byte 0xad) refl
scalar_in scalars.I64TruncF32S = row_at (Byte 0xae) refl
scalar_in scalars.I64TruncF32U = row_at (Byte 0xaf) refl
scalar_in scalars.I64TruncF64S = row_at (Byte 0xb0) refl
scalar_in scalars.I64TruncF64U = row_at (Byte 0xb1) refl
scalar_in scalars.F32ConvertI32S = row_at (Byte 0xb2) refl
scalar_in scalars.F32ConvertI32U = row_at (Byte 0xb3) refl
scalar_in scalars.F32ConvertI64S = row_at (Byte 0xb4) refl
scalar_in scalars.F32ConvertI64U = row_at (Byte 0xb5) refl
scalar_in scalars.F32DemoteF64 = row_at (Byte 0xb6) refl
scalar_in scalars.F64ConvertI32S = row_at (Byte 0xb7) refl
scalar_in scalars.F64ConvertI32U = row_at (Byte 0xb8) refl
scalar_in scalars.F64ConvertI64S = row_at (Byte 0xb9) refl
scalar_in scalars.F64ConvertI64U = row_at (Byte 0xba) refl
scalar_in scalars.F64PromoteF32 = row_at (Byte 0xbb) refl
scalar_in scalars.I32ReinterpretF32 = row_at (Byte 0xbc) refl
scalar_in scalars.I64ReinterpretF64 = row_at (Byte 0xbd) refl
scalar_in scalars.F32ReinterpretI32 = row_at (Byte 0xbe) refl
scalar_in scalars.F64ReinterpretI64 = row_at (Byte 0xbf) refl
scalar_in scalars.I32Extend8S = row_at (Byte 0xc0) refl
scalar_in scalars.I32Extend16S = row_at (Byte 0xc1) refl
scalar_in scalars.I64Extend8S = row_at (Byte 0xc2) refl
scalar_in scalars.I64Extend16S = row_at (Byte 0xc3) refl
scalar_in scalars.I64Extend32S = row_at (Byte 0xc4) refl
scalar_in scalars.I32TruncSatF32S = row_at (Prefixed 0xfc 0) refl
scalar_in scalars.I32TruncSatF32U = row_at (Prefixed 0xfc 1) refl
scalar_in scalars.I32TruncSatF64S = row_at (Prefixed 0xfc 2) refl
scalar_in scalars.I32TruncSatF64U = row_at (Prefixed 0xfc 3) refl
scalar_in scalars.I64TruncSatF32S = row_at (Prefixed 0xfc 4) refl
scalar_in scalars.I64TruncSatF32U = row_at (Prefixed 0xfc 5) refl
scalar_in scalars.I64TruncSatF64S = row_at (Prefixed 0xfc 6) refl
scalar_in scalars.I64TruncSatF64U = row_at (Prefixed 0xfc 7) refl

-- loads and stores, by their codes
pub load_0x28 : Contains load_rows (first_access load_rows 0x28)
load_0x28 = access_in load_rows 0x28 refl

pub load_0x29 : Contains load_rows (first_access load_rows 0x29)
load_0x29 = access_in load_rows 0x29 refl

pub load_0x2a : Contains load_rows (first_access load_rows 0x2a)
load_0x2a = access_in load_rows 0x2a refl

pub load_0x2b : Contains load_rows (first_access load_rows 0x2b)
load_0x2b = access_in load_rows 0x2b refl

pub load_0x2c : Contains load_rows (first_access load_rows 0x2c)
load_0x2c = access_in load_rows 0x2c refl

pub load_0x2d : Contains load_rows (first_access load_rows 0x2d)
load_0x2d = access_in load_rows 0x2d refl

pub load_0x2e : Contains load_rows (first_access load_rows 0x2e)
load_0x2e = access_in load_rows 0x2e refl

pub load_0x2f : Contains load_rows (first_access load_rows 0x2f)
load_0x2f = access_in load_rows 0x2f refl

pub load_0x30 : Contains load_rows (first_access load_rows 0x30)
load_0x30 = access_in load_rows 0x30 refl

pub load_0x31 : Contains load_rows (first_access load_rows 0x31)
load_0x31 = access_in load_rows 0x31 refl

pub load_0x32 : Contains load_rows (first_access load_rows 0x32)
load_0x32 = access_in load_rows 0x32 refl

pub load_0x33 : Contains load_rows (first_access load_rows 0x33)
load_0x33 = access_in load_rows 0x33 refl

pub load_0x34 : Contains load_rows (first_access load_rows 0x34)
load_0x34 = access_in load_rows 0x34 refl

pub load_0x35 : Contains load_rows (first_access load_rows 0x35)
load_0x35 = access_in load_rows 0x35 refl

pub store_0x36 : Contains store_rows (first_access store_rows 0x36)
store_0x36 = access_in store_rows 0x36 refl

pub store_0x37 : Contains store_rows (first_access store_rows 0x37)
store_0x37 = access_in store_rows 0x37 refl

pub store_0x38 : Contains store_rows (first_access store_rows 0x38)
store_0x38 = access_in store_rows 0x38 refl

pub store_0x39 : Contains store_rows (first_access store_rows 0x39)
store_0x39 = access_in store_rows 0x39 refl

pub store_0x3a : Contains store_rows (first_access store_rows 0x3a)
store_0x3a = access_in store_rows 0x3a refl

pub store_0x3b : Contains store_rows (first_access store_rows 0x3b)
store_0x3b = access_in store_rows 0x3b refl

pub store_0x3c : Contains store_rows (first_access store_rows 0x3c)
store_0x3c = access_in store_rows 0x3c refl

pub store_0x3d : Contains store_rows (first_access store_rows 0x3d)
store_0x3d = access_in store_rows 0x3d refl

pub store_0x3e : Contains store_rows (first_access store_rows 0x3e)
store_0x3e = access_in store_rows 0x3e refl

pub labels_fit : (labels : List ℕ) → ((k : ℕ) → Fits w32 (get_or labels k 0)) → AllByRecursion IsSmallIndex labels
labels_fit [] h = tt
labels_fit (label ∷ labels) h = (omega (arith, h 0), labels_fit labels (λ k. h (suc k)))

pub small_i32load : (instruction : Instruction) (memarg : MemArg) → memarg.memory_index < 2 ^ 32 → memarg.offset < 2 ^ 64 → instruction ≡ instructions.I32Load memarg
    → IsAligned instruction → IsSmallOperator (operator instruction)
small_i32load instruction memarg memory offset is aligned = rw is ((rw is at aligned, memory, offset), load_0x28)

pub small_i64load : (instruction : Instruction) (memarg : MemArg) → memarg.memory_index < 2 ^ 32 → memarg.offset < 2 ^ 64 → instruction ≡ instructions.I64Load memarg
    → IsAligned instruction → IsSmallOperator (operator instruction)
small_i64load instruction memarg memory offset is aligned = rw is ((rw is at aligned, memory, offset), load_0x29)

pub small_f32load : (instruction : Instruction) (memarg : MemArg) → memarg.memory_index < 2 ^ 32 → memarg.offset < 2 ^ 64 → instruction ≡ instructions.F32Load memarg
    → IsAligned instruction → IsSmallOperator (operator instruction)
small_f32load instruction memarg memory offset is aligned = rw is ((rw is at aligned, memory, offset), load_0x2a)

pub small_f64load : (instruction : Instruction) (memarg : MemArg) → memarg.memory_index < 2 ^ 32 → memarg.offset < 2 ^ 64 → instruction ≡ instructions.F64Load memarg
    → IsAligned instruction → IsSmallOperator (operator instruction)
small_f64load instruction memarg memory offset is aligned = rw is ((rw is at aligned, memory, offset), load_0x2b)

pub small_i32load8s : (instruction : Instruction) (memarg : MemArg) → memarg.memory_index < 2 ^ 32 → memarg.offset < 2 ^ 64 → instruction ≡ instructions.I32Load8S memarg
    → IsAligned instruction → IsSmallOperator (operator instruction)
small_i32load8s instruction memarg memory offset is aligned = rw is ((rw is at aligned, memory, offset), load_0x2c)

pub small_i32load8u : (instruction : Instruction) (memarg : MemArg) → memarg.memory_index < 2 ^ 32 → memarg.offset < 2 ^ 64 → instruction ≡ instructions.I32Load8U memarg
    → IsAligned instruction → IsSmallOperator (operator instruction)
small_i32load8u instruction memarg memory offset is aligned = rw is ((rw is at aligned, memory, offset), load_0x2d)

pub small_i32load16s : (instruction : Instruction) (memarg : MemArg) → memarg.memory_index < 2 ^ 32 → memarg.offset < 2 ^ 64 → instruction ≡ instructions.I32Load16S memarg
    → IsAligned instruction → IsSmallOperator (operator instruction)
small_i32load16s instruction memarg memory offset is aligned = rw is ((rw is at aligned, memory, offset), load_0x2e)

pub small_i32load16u : (instruction : Instruction) (memarg : MemArg) → memarg.memory_index < 2 ^ 32 → memarg.offset < 2 ^ 64 → instruction ≡ instructions.I32Load16U memarg
    → IsAligned instruction → IsSmallOperator (operator instruction)
small_i32load16u instruction memarg memory offset is aligned = rw is ((rw is at aligned, memory, offset), load_0x2f)

pub small_i64load8s : (instruction : Instruction) (memarg : MemArg) → memarg.memory_index < 2 ^ 32 → memarg.offset < 2 ^ 64 → instruction ≡ instructions.I64Load8S memarg
    → IsAligned instruction → IsSmallOperator (operator instruction)
small_i64load8s instruction memarg memory offset is aligned = rw is ((rw is at aligned, memory, offset), load_0x30)

pub small_i64load8u : (instruction : Instruction) (memarg : MemArg) → memarg.memory_index < 2 ^ 32 → memarg.offset < 2 ^ 64 → instruction ≡ instructions.I64Load8U memarg
    → IsAligned instruction → IsSmallOperator (operator instruction)
small_i64load8u instruction memarg memory offset is aligned = rw is ((rw is at aligned, memory, offset), load_0x31)

pub small_i64load16s : (instruction : Instruction) (memarg : MemArg) → memarg.memory_index < 2 ^ 32 → memarg.offset < 2 ^ 64 → instruction ≡ instructions.I64Load16S memarg
    → IsAligned instruction → IsSmallOperator (operator instruction)
small_i64load16s instruction memarg memory offset is aligned = rw is ((rw is at aligned, memory, offset), load_0x32)

pub small_i64load16u : (instruction : Instruction) (memarg : MemArg) → memarg.memory_index < 2 ^ 32 → memarg.offset < 2 ^ 64 → instruction ≡ instructions.I64Load16U memarg
    → IsAligned instruction → IsSmallOperator (operator instruction)
small_i64load16u instruction memarg memory offset is aligned = rw is ((rw is at aligned, memory, offset), load_0x33)

pub small_i64load32s : (instruction : Instruction) (memarg : MemArg) → memarg.memory_index < 2 ^ 32 → memarg.offset < 2 ^ 64 → instruction ≡ instructions.I64Load32S memarg
    → IsAligned instruction → IsSmallOperator (operator instruction)
small_i64load32s instruction memarg memory offset is aligned = rw is ((rw is at aligned, memory, offset), load_0x34)

pub small_i64load32u : (instruction : Instruction) (memarg : MemArg) → memarg.memory_index < 2 ^ 32 → memarg.offset < 2 ^ 64 → instruction ≡ instructions.I64Load32U memarg
    → IsAligned instruction → IsSmallOperator (operator instruction)
small_i64load32u instruction memarg memory offset is aligned = rw is ((rw is at aligned, memory, offset), load_0x35)

pub small_i32store : (instruction : Instruction) (memarg : MemArg) → memarg.memory_index < 2 ^ 32 → memarg.offset < 2 ^ 64 → instruction ≡ instructions.I32Store memarg
    → IsAligned instruction → IsSmallOperator (operator instruction)
small_i32store instruction memarg memory offset is aligned = rw is ((rw is at aligned, memory, offset), store_0x36)

pub small_i64store : (instruction : Instruction) (memarg : MemArg) → memarg.memory_index < 2 ^ 32 → memarg.offset < 2 ^ 64 → instruction ≡ instructions.I64Store memarg
    → IsAligned instruction → IsSmallOperator (operator instruction)
small_i64store instruction memarg memory offset is aligned = rw is ((rw is at aligned, memory, offset), store_0x37)

pub small_f32store : (instruction : Instruction) (memarg : MemArg) → memarg.memory_index < 2 ^ 32 → memarg.offset < 2 ^ 64 → instruction ≡ instructions.F32Store memarg
    → IsAligned instruction → IsSmallOperator (operator instruction)
small_f32store instruction memarg memory offset is aligned = rw is ((rw is at aligned, memory, offset), store_0x38)

pub small_f64store : (instruction : Instruction) (memarg : MemArg) → memarg.memory_index < 2 ^ 32 → memarg.offset < 2 ^ 64 → instruction ≡ instructions.F64Store memarg
    → IsAligned instruction → IsSmallOperator (operator instruction)
small_f64store instruction memarg memory offset is aligned = rw is ((rw is at aligned, memory, offset), store_0x39)

pub small_i32store8 : (instruction : Instruction) (memarg : MemArg) → memarg.memory_index < 2 ^ 32 → memarg.offset < 2 ^ 64 → instruction ≡ instructions.I32Store8 memarg
    → IsAligned instruction → IsSmallOperator (operator instruction)
small_i32store8 instruction memarg memory offset is aligned = rw is ((rw is at aligned, memory, offset), store_0x3a)

pub small_i32store16 : (instruction : Instruction) (memarg : MemArg) → memarg.memory_index < 2 ^ 32 → memarg.offset < 2 ^ 64 → instruction ≡ instructions.I32Store16 memarg
    → IsAligned instruction → IsSmallOperator (operator instruction)
small_i32store16 instruction memarg memory offset is aligned = rw is ((rw is at aligned, memory, offset), store_0x3b)

pub small_i64store8 : (instruction : Instruction) (memarg : MemArg) → memarg.memory_index < 2 ^ 32 → memarg.offset < 2 ^ 64 → instruction ≡ instructions.I64Store8 memarg
    → IsAligned instruction → IsSmallOperator (operator instruction)
small_i64store8 instruction memarg memory offset is aligned = rw is ((rw is at aligned, memory, offset), store_0x3c)

pub small_i64store16 : (instruction : Instruction) (memarg : MemArg) → memarg.memory_index < 2 ^ 32 → memarg.offset < 2 ^ 64 → instruction ≡ instructions.I64Store16 memarg
    → IsAligned instruction → IsSmallOperator (operator instruction)
small_i64store16 instruction memarg memory offset is aligned = rw is ((rw is at aligned, memory, offset), store_0x3d)

pub small_i64store32 : (instruction : Instruction) (memarg : MemArg) → memarg.memory_index < 2 ^ 32 → memarg.offset < 2 ^ 64 → instruction ≡ instructions.I64Store32 memarg
    → IsAligned instruction → IsSmallOperator (operator instruction)
small_i64store32 instruction memarg memory offset is aligned = rw is ((rw is at aligned, memory, offset), store_0x3e)

pub vector_fits : (bits : ℤ) → AreBytes (vector_bytes bits) × (length (vector_bytes bits) ≡ 16)
unfolding vector_bytes
vector_fits bits = ((omega arith, (omega arith, (omega arith, (omega arith, (omega arith, (omega arith, (omega arith, (omega arith, (omega arith, (omega arith, (omega arith, (omega arith, (omega arith, (omega arith, (omega arith, (omega arith, tt)))))))))))))))), refl)

pub ruleset rows_in = (scalar_in, vector_fits, small_i32load, small_i64load, small_f32load, small_f64load, small_i32load8s, small_i32load8u, small_i32load16s, small_i32load16u, small_i64load8s, small_i64load8u, small_i64load16s, small_i64load16u, small_i64load32s, small_i64load32u, small_i32store, small_i64store, small_f32store, small_f64store, small_i32store8, small_i32store16, small_i64store8, small_i64store16, small_i64store32)
