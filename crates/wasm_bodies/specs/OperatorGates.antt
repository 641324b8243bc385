-- Which flags operators ask for. The standard has no features: its appendix "Change History" tells which operators came with which proposal. An operator
-- that has a float in its signature, or loads or stores one, asks for that of floats, which belongs to no proposal. Types that operators write
-- are asked for theirs where the types are looked up.
use Rattle.std.specs.Prelude.{Bool, List, [], ◌∷◌, ◌++◌, if◌then◌else◌}
use Rattle.std.specs.List.{list_all, list_any}
use Rattle.wasm_bodies.specs.OperatorRows.{NumberType, is_float}
use Rattle.wasm_bodies.specs.Operators.{BlockType, Indexed, Operator, Block, Loop, If, ReturnCall, ReturnCallIndirect, CallRef, ReturnCallRef, BrOnNull, BrOnNonNull, SelectTyped, F32Const, F64Const, V128Const, Scalar, Load, Store, MemoryFill, MemoryCopy, MemoryInit, DataDrop, TableGet, TableSet, TableSize, TableGrow, TableFill, TableCopy, TableInit, ElemDrop, RefNull, RefIsNull, RefFunc, RefEq, RefAsNonNull, StructNew, StructNewDefault, ArrayNew, ArrayNewDefault, ArrayNewFixed, RefI31, AnyConvertExtern, ExternConvertAny}
use Rattle.wasm_spec.specs.Features.{Flag, Features, has, ReferenceTypes, MultiValue, BulkMemory, Simd, TailCall, Floats, FunctionReferences, Gc}

-- what operators on these numbers ask for
abbrev pub float_gate : List NumberType → List Flag
float_gate types = if list_any is_float types then Floats ∷ [] else []

-- what opens a block whose type is an index asks for several values, whatever the index names, a type of no parameters and no results too
abbrev pub block_gate : {R : Type 0} → BlockType R → List Flag
block_gate (Indexed index) = MultiValue ∷ []
block_gate type = []

-- the flags that an operator asks for, of which all have to be on
abbrev pub gate_of : {R : Type 0} → Operator R → List Flag
gate_of (Block type) = block_gate type
gate_of (Loop type) = block_gate type
gate_of (If type) = block_gate type
gate_of (ReturnCall function) = TailCall ∷ []
gate_of (ReturnCallIndirect type table) = TailCall ∷ []
gate_of (CallRef type) = FunctionReferences ∷ []
gate_of (ReturnCallRef type) = FunctionReferences ∷ []
gate_of (BrOnNull label) = FunctionReferences ∷ []
gate_of (BrOnNonNull label) = FunctionReferences ∷ []
gate_of (SelectTyped types) = ReferenceTypes ∷ []
gate_of (F32Const bits) = Floats ∷ []
gate_of (F64Const bits) = Floats ∷ []
gate_of (V128Const bytes) = Simd ∷ []
gate_of (Scalar row) = row.gate ++ float_gate (row.gives ∷ row.takes)
gate_of (Load row argument) = float_gate (row.type ∷ [])
gate_of (Store row argument) = float_gate (row.type ∷ [])
gate_of (MemoryFill memory) = BulkMemory ∷ []
gate_of (MemoryCopy to from) = BulkMemory ∷ []
gate_of (MemoryInit segment memory) = BulkMemory ∷ []
gate_of (DataDrop segment) = BulkMemory ∷ []
gate_of (TableGet table) = ReferenceTypes ∷ []
gate_of (TableSet table) = ReferenceTypes ∷ []
gate_of (TableSize table) = ReferenceTypes ∷ []
gate_of (TableGrow table) = ReferenceTypes ∷ []
gate_of (TableFill table) = ReferenceTypes ∷ []
gate_of (TableCopy to from) = BulkMemory ∷ []
gate_of (TableInit segment table) = BulkMemory ∷ []
gate_of (ElemDrop segment) = BulkMemory ∷ []
gate_of (RefNull heap) = ReferenceTypes ∷ []
gate_of RefIsNull = ReferenceTypes ∷ []
gate_of (RefFunc function) = ReferenceTypes ∷ []
gate_of RefEq = Gc ∷ []
gate_of RefAsNonNull = FunctionReferences ∷ []
gate_of (StructNew type) = Gc ∷ []
gate_of (StructNewDefault type) = Gc ∷ []
gate_of (ArrayNew type) = Gc ∷ []
gate_of (ArrayNewDefault type) = Gc ∷ []
gate_of (ArrayNewFixed type count) = Gc ∷ []
gate_of RefI31 = Gc ∷ []
gate_of AnyConvertExtern = Gc ∷ []
gate_of ExternConvertAny = Gc ∷ []
-- the others are those of the first version
gate_of _ = []

abbrev pub is_on : {R : Type 0} → Features → Operator R → Bool
is_on features operator = list_all (has features) (gate_of operator)
