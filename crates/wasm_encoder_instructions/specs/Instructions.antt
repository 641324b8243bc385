-- Instructions of the code as operators.
use Rattle.std.specs.Int.{w128, cast_unsigned, to_le_bytes}
use Rattle.std.specs.Prelude.{ℕ, ℤ, List, [], ◌∷◌, map, if◌then◌else◌, nat_eq}
use Rattle.wasm_bodies.specs.OperatorRows.{Int32, AccessRow, load_rows, store_rows}
use Rattle.wasm_bodies.specs.Operators as spec
use Rattle.wasm_core_types.specs.CoreTypes.{heap_type, val_type}
use Rattle.wasm_encoder_instructions.specs.Immediates.{block_type, memory_argument}
use Rattle.wasm_encoder_instructions.specs.OperatorEncodings.{operator_encoding}
use Rattle.wasm_encoder_instructions.specs.ScalarRows.{scalar_row}
use Rattle.wasm_encoder_instructions.specs.declared.instruction.Instruction.{Instruction}
use Rattle.wasm_encoder_instructions.specs.declared.instruction.Instruction.TheVariants as instructions
use Rattle.wasm_encoder_instructions.specs.declared.mem_arg.MemArg.{MemArg}

-- the first row of a code, or else one that is in no table
abbrev pub first_access : List AccessRow → ℕ → AccessRow
first_access [] code = record { code = 0; type = Int32; exponent = 0 }
first_access (row ∷ rows) code = if nat_eq code row.code then row else first_access rows code

abbrev pub loaded : ℕ → MemArg → spec.Operator ℕ
loaded code memarg = spec.Load (first_access load_rows code) (memory_argument memarg)

abbrev pub stored : ℕ → MemArg → spec.Operator ℕ
stored code memarg = spec.Store (first_access store_rows code) (memory_argument memarg)

-- the sixteen bytes of a vector, the lowest first
unfoldable pub vector_bytes : ℤ → List ℕ
vector_bytes bits = to_le_bytes w128 (cast_unsigned w128 bits)

abbrev pub operator : Instruction → spec.Operator ℕ
operator instructions.Unreachable = spec.Unreachable
operator instructions.Nop = spec.Nop
operator (instructions.Block ty) = spec.Block (block_type ty)
operator (instructions.Loop ty) = spec.Loop (block_type ty)
operator (instructions.If ty) = spec.If (block_type ty)
operator instructions.Else = spec.Else
operator instructions.End = spec.End
operator (instructions.Br label) = spec.Br label
operator (instructions.BrIf label) = spec.BrIf label
operator (instructions.BrTable labels other) = spec.BrTable labels.now other
operator (instructions.BrOnNull label) = spec.BrOnNull label
operator (instructions.BrOnNonNull label) = spec.BrOnNonNull label
operator instructions.Return = spec.Return
operator (instructions.Call function) = spec.Call function
operator (instructions.CallRef ty) = spec.CallRef ty
operator (instructions.CallIndirect type_index table_index) = spec.CallIndirect type_index table_index
operator (instructions.ReturnCallRef ty) = spec.ReturnCallRef ty
operator (instructions.ReturnCall function) = spec.ReturnCall function
operator (instructions.ReturnCallIndirect type_index table_index) = spec.ReturnCallIndirect type_index table_index
operator instructions.Drop = spec.Drop
operator instructions.Select = spec.Select
operator (instructions.LocalGet local) = spec.LocalGet local
operator (instructions.LocalSet local) = spec.LocalSet local
operator (instructions.LocalTee local) = spec.LocalTee local
operator (instructions.GlobalGet global) = spec.GlobalGet global
operator (instructions.GlobalSet global) = spec.GlobalSet global
operator (instructions.I32Load memarg) = loaded 0x28 memarg
operator (instructions.I64Load memarg) = loaded 0x29 memarg
operator (instructions.F32Load memarg) = loaded 0x2a memarg
operator (instructions.F64Load memarg) = loaded 0x2b memarg
operator (instructions.I32Load8S memarg) = loaded 0x2c memarg
operator (instructions.I32Load8U memarg) = loaded 0x2d memarg
operator (instructions.I32Load16S memarg) = loaded 0x2e memarg
operator (instructions.I32Load16U memarg) = loaded 0x2f memarg
operator (instructions.I64Load8S memarg) = loaded 0x30 memarg
operator (instructions.I64Load8U memarg) = loaded 0x31 memarg
operator (instructions.I64Load16S memarg) = loaded 0x32 memarg
operator (instructions.I64Load16U memarg) = loaded 0x33 memarg
operator (instructions.I64Load32S memarg) = loaded 0x34 memarg
operator (instructions.I64Load32U memarg) = loaded 0x35 memarg
operator (instructions.I32Store memarg) = stored 0x36 memarg
operator (instructions.I64Store memarg) = stored 0x37 memarg
operator (instructions.F32Store memarg) = stored 0x38 memarg
operator (instructions.F64Store memarg) = stored 0x39 memarg
operator (instructions.I32Store8 memarg) = stored 0x3a memarg
operator (instructions.I32Store16 memarg) = stored 0x3b memarg
operator (instructions.I64Store8 memarg) = stored 0x3c memarg
operator (instructions.I64Store16 memarg) = stored 0x3d memarg
operator (instructions.I64Store32 memarg) = stored 0x3e memarg
operator (instructions.MemorySize memory) = spec.MemorySize memory
operator (instructions.MemoryGrow memory) = spec.MemoryGrow memory
operator (instructions.MemoryInit mem data_index) = spec.MemoryInit data_index mem
operator (instructions.DataDrop segment) = spec.DataDrop segment
operator (instructions.MemoryCopy src_mem dst_mem) = spec.MemoryCopy dst_mem src_mem
operator (instructions.MemoryFill memory) = spec.MemoryFill memory
operator (instructions.I32Const value) = spec.I32Const value
operator (instructions.I64Const value) = spec.I64Const value
operator (instructions.F32Const value) = spec.F32Const value.bits
operator (instructions.F64Const value) = spec.F64Const value.bits
operator (instructions.Scalar it) = spec.Scalar (scalar_row it)
operator (instructions.TypedSelect ty) = spec.SelectTyped (val_type ty ∷ [])
operator (instructions.TypedSelectMulti types) = spec.SelectTyped (map val_type types.now)
operator (instructions.RefNull heap) = spec.RefNull (heap_type heap)
operator instructions.RefIsNull = spec.RefIsNull
operator (instructions.RefFunc function) = spec.RefFunc function
operator instructions.RefEq = spec.RefEq
operator instructions.RefAsNonNull = spec.RefAsNonNull
operator (instructions.StructNew ty) = spec.StructNew ty
operator (instructions.StructNewDefault ty) = spec.StructNewDefault ty
operator (instructions.ArrayNew ty) = spec.ArrayNew ty
operator (instructions.ArrayNewDefault ty) = spec.ArrayNewDefault ty
operator (instructions.ArrayNewFixed array_type_index array_size) = spec.ArrayNewFixed array_type_index array_size
operator instructions.AnyConvertExtern = spec.AnyConvertExtern
operator instructions.ExternConvertAny = spec.ExternConvertAny
operator instructions.RefI31 = spec.RefI31
operator (instructions.TableInit elem_index table) = spec.TableInit elem_index table
operator (instructions.ElemDrop segment) = spec.ElemDrop segment
operator (instructions.TableFill table) = spec.TableFill table
operator (instructions.TableSet table) = spec.TableSet table
operator (instructions.TableGet table) = spec.TableGet table
operator (instructions.TableGrow table) = spec.TableGrow table
operator (instructions.TableSize table) = spec.TableSize table
operator (instructions.TableCopy src_table dst_table) = spec.TableCopy dst_table src_table
operator (instructions.V128Const bits) = spec.V128Const (vector_bytes bits)

unfoldable pub instruction_encoding : Instruction → List ℕ
instruction_encoding instruction = operator_encoding (operator instruction)
