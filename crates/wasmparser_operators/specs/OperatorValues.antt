-- Operators of the code as those of the specification. Each load and store is its row of a table.
use Rattle.std.specs.Prelude.{◌≡◌, ⊤, ℕ, [], ◌∷◌, length, Option, Some, None}
use Rattle.std.specs.List.{AllByRecursion}
use Rattle.wasm_bodies.specs.OperatorRows.{Byte, Int32, AccessRow}
use Rattle.wasm_bodies.specs.Operators as spec
use Rattle.wasm_spec.specs.TypeReferences.{heap_map, heap_refs, val_map, val_refs}
use Rattle.wasm_spec.specs.Types as types
use Rattle.wasmparser_readers.specs.ModuleIndexes.{IsModuleIndex}
use Rattle.wasmparser_types.specs.HeapTypes.{heap_type}
use Rattle.wasmparser_types.specs.Index.{number_of}
use Rattle.wasmparser_types.specs.ValTypes.{val_type}
use Rattle.wasmparser_types.specs.declared.heap_type.HeapType.{HeapType}
use Rattle.wasmparser_types.specs.declared.val_type.ValType.{ValType}
use Rattle.wasmparser_operators.specs.declared.immediates.BlockType.{BlockType}
use Rattle.wasmparser_operators.specs.declared.immediates.BlockType.TheVariants as blocks
use Rattle.wasmparser_operators.specs.declared.immediates.MemArg.{MemArg}
use Rattle.wasmparser_operators.specs.declared.operator.Operator.{Operator}
use Rattle.wasmparser_operators.specs.declared.operator.Operator.TheVariants as operators
use Rattle.wasmparser_operators.specs.CodeTables.{load_of, store_of}
use Rattle.wasmparser_operators.specs.ScalarValues.{scalar_row}

-- ---- immediates

-- a value type whose indexes are those of types in the module
abbrev pub module_type : ValType → types.ValType ℕ
module_type type = val_map number_of (val_type type)

abbrev pub IsOfModule : ValType → Type 0
IsOfModule type = AllByRecursion IsModuleIndex (val_refs (val_type type))

abbrev pub block_type : BlockType → spec.BlockType ℕ
block_type blocks.Empty = spec.Empty
block_type (blocks.Type type) = spec.Value (module_type type)
block_type (blocks.FuncType index) = spec.Indexed index

abbrev pub IsBlockOfModule : BlockType → Type 0
IsBlockOfModule (blocks.Type type) = IsOfModule type
IsBlockOfModule _ = ⊤

abbrev pub IsHeapOfModule : HeapType → Type 0
IsHeapOfModule type = AllByRecursion IsModuleIndex (heap_refs (heap_type type))

abbrev pub memory_argument : MemArg → spec.MemoryArgument
memory_argument memarg = record { exponent = memarg.align; memory = memarg.memory; offset = memarg.offset }

-- ---- loads and stores

-- the row, or else one that is in no table
abbrev pub access_or_none : Option AccessRow → AccessRow
access_or_none None = record { code = 0; type = Int32; exponent = 0 }
access_or_none (Some row) = row

abbrev load_row : ℕ → AccessRow
load_row code = access_or_none (load_of (Byte code))

abbrev store_row : ℕ → AccessRow
store_row code = access_or_none (store_of (Byte code))

abbrev pub loaded : ℕ → MemArg → spec.Operator ℕ
loaded code memarg = spec.Load (load_row code) (memory_argument memarg)

abbrev pub stored : ℕ → MemArg → spec.Operator ℕ
stored code memarg = spec.Store (store_row code) (memory_argument memarg)

-- ---- operators

abbrev pub operator : Operator → spec.Operator ℕ
operator operators.Unreachable = spec.Unreachable
operator operators.Nop = spec.Nop
operator (operators.Block blockty) = spec.Block (block_type blockty)
operator (operators.Loop blockty) = spec.Loop (block_type blockty)
operator (operators.If blockty) = spec.If (block_type blockty)
operator operators.Else = spec.Else
operator operators.End = spec.End
operator (operators.Br relative_depth) = spec.Br relative_depth
operator (operators.BrIf relative_depth) = spec.BrIf relative_depth
operator (operators.BrTable targets) = spec.BrTable targets.labels targets.default
operator operators.Return = spec.Return
operator (operators.Call function_index) = spec.Call function_index
operator (operators.CallIndirect type_index table_index) = spec.CallIndirect type_index table_index
operator (operators.ReturnCall function_index) = spec.ReturnCall function_index
operator (operators.ReturnCallIndirect type_index table_index) = spec.ReturnCallIndirect type_index table_index
operator (operators.CallRef type_index) = spec.CallRef type_index
operator (operators.ReturnCallRef type_index) = spec.ReturnCallRef type_index
operator operators.Drop = spec.Drop
operator operators.Select = spec.Select
operator (operators.TypedSelect ty) = spec.SelectTyped (module_type ty ∷ [])
operator (operators.TypedSelectMulti tys) = spec.SelectTyped tys
operator (operators.LocalGet local_index) = spec.LocalGet local_index
operator (operators.LocalSet local_index) = spec.LocalSet local_index
operator (operators.LocalTee local_index) = spec.LocalTee local_index
operator (operators.GlobalGet global_index) = spec.GlobalGet global_index
operator (operators.GlobalSet global_index) = spec.GlobalSet global_index
operator (operators.TableGet table) = spec.TableGet table
operator (operators.TableSet table) = spec.TableSet table
operator (operators.I32Load memarg) = loaded 0x28 memarg
operator (operators.I64Load memarg) = loaded 0x29 memarg
operator (operators.F32Load memarg) = loaded 0x2a memarg
operator (operators.F64Load memarg) = loaded 0x2b memarg
operator (operators.I32Load8S memarg) = loaded 0x2c memarg
operator (operators.I32Load8U memarg) = loaded 0x2d memarg
operator (operators.I32Load16S memarg) = loaded 0x2e memarg
operator (operators.I32Load16U memarg) = loaded 0x2f memarg
operator (operators.I64Load8S memarg) = loaded 0x30 memarg
operator (operators.I64Load8U memarg) = loaded 0x31 memarg
operator (operators.I64Load16S memarg) = loaded 0x32 memarg
operator (operators.I64Load16U memarg) = loaded 0x33 memarg
operator (operators.I64Load32S memarg) = loaded 0x34 memarg
operator (operators.I64Load32U memarg) = loaded 0x35 memarg
operator (operators.I32Store memarg) = stored 0x36 memarg
operator (operators.I64Store memarg) = stored 0x37 memarg
operator (operators.F32Store memarg) = stored 0x38 memarg
operator (operators.F64Store memarg) = stored 0x39 memarg
operator (operators.I32Store8 memarg) = stored 0x3a memarg
operator (operators.I32Store16 memarg) = stored 0x3b memarg
operator (operators.I64Store8 memarg) = stored 0x3c memarg
operator (operators.I64Store16 memarg) = stored 0x3d memarg
operator (operators.I64Store32 memarg) = stored 0x3e memarg
operator (operators.MemorySize mem) = spec.MemorySize mem
operator (operators.MemoryGrow mem) = spec.MemoryGrow mem
operator (operators.I32Const value) = spec.I32Const value
operator (operators.I64Const value) = spec.I64Const value
operator (operators.F32Const bits) = spec.F32Const bits
operator (operators.F64Const bits) = spec.F64Const bits
operator (operators.Scalar it) = spec.Scalar (scalar_row it)
operator (operators.RefNull hty) = spec.RefNull (heap_map number_of (heap_type hty))
operator operators.RefIsNull = spec.RefIsNull
operator (operators.RefFunc function_index) = spec.RefFunc function_index
operator operators.RefEq = spec.RefEq
operator operators.RefAsNonNull = spec.RefAsNonNull
operator (operators.BrOnNull relative_depth) = spec.BrOnNull relative_depth
operator (operators.BrOnNonNull relative_depth) = spec.BrOnNonNull relative_depth
operator (operators.StructNew struct_type_index) = spec.StructNew struct_type_index
operator (operators.StructNewDefault struct_type_index) = spec.StructNewDefault struct_type_index
operator (operators.ArrayNew array_type_index) = spec.ArrayNew array_type_index
operator (operators.ArrayNewDefault array_type_index) = spec.ArrayNewDefault array_type_index
operator (operators.ArrayNewFixed array_type_index array_size) = spec.ArrayNewFixed array_type_index array_size
operator operators.AnyConvertExtern = spec.AnyConvertExtern
operator operators.ExternConvertAny = spec.ExternConvertAny
operator operators.RefI31 = spec.RefI31
operator (operators.MemoryInit data_index mem) = spec.MemoryInit data_index mem
operator (operators.DataDrop data_index) = spec.DataDrop data_index
operator (operators.MemoryCopy dst_mem src_mem) = spec.MemoryCopy dst_mem src_mem
operator (operators.MemoryFill mem) = spec.MemoryFill mem
operator (operators.TableInit elem_index table) = spec.TableInit elem_index table
operator (operators.ElemDrop elem_index) = spec.ElemDrop elem_index
operator (operators.TableCopy dst_table src_table) = spec.TableCopy dst_table src_table
operator (operators.TableGrow table) = spec.TableGrow table
operator (operators.TableSize table) = spec.TableSize table
operator (operators.TableFill table) = spec.TableFill table
operator (operators.V128Const bytes) = spec.V128Const bytes

-- the types that an operator names are named by their places in the module
abbrev pub NamesModuleTypes : Operator → Type 0
NamesModuleTypes (operators.Block blockty) = IsBlockOfModule blockty
NamesModuleTypes (operators.Loop blockty) = IsBlockOfModule blockty
NamesModuleTypes (operators.If blockty) = IsBlockOfModule blockty
NamesModuleTypes (operators.TypedSelect ty) = IsOfModule ty
NamesModuleTypes (operators.RefNull hty) = IsHeapOfModule hty
NamesModuleTypes _ = ⊤

-- a load or store has its natural alignment as the greatest
abbrev pub IsNaturallyAligned : Operator → Type 0
IsNaturallyAligned (operators.I32Load memarg) = memarg.max_align ≡ (load_row 0x28).exponent
IsNaturallyAligned (operators.I64Load memarg) = memarg.max_align ≡ (load_row 0x29).exponent
IsNaturallyAligned (operators.F32Load memarg) = memarg.max_align ≡ (load_row 0x2a).exponent
IsNaturallyAligned (operators.F64Load memarg) = memarg.max_align ≡ (load_row 0x2b).exponent
IsNaturallyAligned (operators.I32Load8S memarg) = memarg.max_align ≡ (load_row 0x2c).exponent
IsNaturallyAligned (operators.I32Load8U memarg) = memarg.max_align ≡ (load_row 0x2d).exponent
IsNaturallyAligned (operators.I32Load16S memarg) = memarg.max_align ≡ (load_row 0x2e).exponent
IsNaturallyAligned (operators.I32Load16U memarg) = memarg.max_align ≡ (load_row 0x2f).exponent
IsNaturallyAligned (operators.I64Load8S memarg) = memarg.max_align ≡ (load_row 0x30).exponent
IsNaturallyAligned (operators.I64Load8U memarg) = memarg.max_align ≡ (load_row 0x31).exponent
IsNaturallyAligned (operators.I64Load16S memarg) = memarg.max_align ≡ (load_row 0x32).exponent
IsNaturallyAligned (operators.I64Load16U memarg) = memarg.max_align ≡ (load_row 0x33).exponent
IsNaturallyAligned (operators.I64Load32S memarg) = memarg.max_align ≡ (load_row 0x34).exponent
IsNaturallyAligned (operators.I64Load32U memarg) = memarg.max_align ≡ (load_row 0x35).exponent
IsNaturallyAligned (operators.I32Store memarg) = memarg.max_align ≡ (store_row 0x36).exponent
IsNaturallyAligned (operators.I64Store memarg) = memarg.max_align ≡ (store_row 0x37).exponent
IsNaturallyAligned (operators.F32Store memarg) = memarg.max_align ≡ (store_row 0x38).exponent
IsNaturallyAligned (operators.F64Store memarg) = memarg.max_align ≡ (store_row 0x39).exponent
IsNaturallyAligned (operators.I32Store8 memarg) = memarg.max_align ≡ (store_row 0x3a).exponent
IsNaturallyAligned (operators.I32Store16 memarg) = memarg.max_align ≡ (store_row 0x3b).exponent
IsNaturallyAligned (operators.I64Store8 memarg) = memarg.max_align ≡ (store_row 0x3c).exponent
IsNaturallyAligned (operators.I64Store16 memarg) = memarg.max_align ≡ (store_row 0x3d).exponent
IsNaturallyAligned (operators.I64Store32 memarg) = memarg.max_align ≡ (store_row 0x3e).exponent
IsNaturallyAligned _ = ⊤

-- an operator as a reader gives it
abbrev pub IsWhole : Operator → Type 0
IsWhole op = NamesModuleTypes op × IsNaturallyAligned op
