-- Constant operators of the code as those of the specification.
use Rattle.std.specs.Prelude.{⊤}
use Rattle.wasm_spec.specs.Constants as spec
use Rattle.wasm_spec.specs.TypeReferences.{heap_map}
use Rattle.wasmparser_types.specs.HeapTypes.{heap_type}
use Rattle.wasm_spec.specs.Types as types
use Rattle.wasmparser_types.specs.Index.{Index, number_of}
use Rattle.wasmparser_readers.specs.ModuleIndexes.{IsModuleIndex}
use Rattle.wasmparser_entries.specs.declared.const_operator.ConstOperator.{ConstOperator}
use Rattle.wasmparser_entries.specs.declared.const_operator.ConstOperator.TheVariants as operators

abbrev pub const_operator : ConstOperator → spec.ConstantOperator
const_operator (operators.I32Const value) = spec.I32Const value
const_operator (operators.I64Const value) = spec.I64Const value
const_operator (operators.F32Const bits) = spec.F32Const bits
const_operator (operators.F64Const bits) = spec.F64Const bits
const_operator (operators.V128Const bytes) = spec.V128Const bytes
const_operator (operators.RefNull type) = spec.RefNull (heap_map number_of (heap_type type))
const_operator (operators.RefFunc function) = spec.RefFunc function
const_operator (operators.GlobalGet global) = spec.GlobalGet global
const_operator operators.I32Add = spec.I32Add
const_operator operators.I32Sub = spec.I32Sub
const_operator operators.I32Mul = spec.I32Mul
const_operator operators.I64Add = spec.I64Add
const_operator operators.I64Sub = spec.I64Sub
const_operator operators.I64Mul = spec.I64Mul
const_operator (operators.StructNew type) = spec.StructNew type
const_operator (operators.StructNewDefault type) = spec.StructNewDefault type
const_operator (operators.ArrayNew type) = spec.ArrayNew type
const_operator (operators.ArrayNewDefault type) = spec.ArrayNewDefault type
const_operator (operators.ArrayNewFixed type len) = spec.ArrayNewFixed type len
const_operator operators.AnyConvertExtern = spec.AnyConvertExtern
const_operator operators.ExternConvertAny = spec.ExternConvertAny
const_operator operators.RefI31 = spec.RefI31

-- a defined type is named by its place in the module
abbrev pub IsModuleHeap : types.HeapType Index → Type 0
IsModuleHeap (types.Abstract heap) = ⊤
IsModuleHeap (types.Concrete i) = IsModuleIndex i

abbrev pub NamesModuleType : ConstOperator → Type 0
NamesModuleType (operators.RefNull type) = IsModuleHeap (heap_type type)
NamesModuleType _ = ⊤
