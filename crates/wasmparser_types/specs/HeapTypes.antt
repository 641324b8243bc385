-- Heap types of the code as those of the specification.
use Rattle.std.specs.Prelude.{◌<◌, Bool, true, Option, Some, None}
use Rattle.wasm_spec.specs.Types as spec
use Rattle.wasmparser_types.specs.Index.{Index, number_of, packable}
use Rattle.wasmparser_types.specs.UnpackedIndex.{index}
use Rattle.wasmparser_types.specs.declared.heap_type.AbstractHeapType.{AbstractHeapType}
use Rattle.wasmparser_types.specs.declared.heap_type.AbstractHeapType.TheVariants as heaps
use Rattle.wasmparser_types.specs.declared.heap_type.HeapType.{HeapType}
use Rattle.wasmparser_types.specs.declared.heap_type.HeapType.TheVariants.{Abstract, Concrete}

abbrev pub abstract_heap_type : AbstractHeapType → spec.AbstractHeapType
abstract_heap_type heaps.Func = spec.Func
abstract_heap_type heaps.Extern = spec.Extern
abstract_heap_type heaps.Any = spec.Any
abstract_heap_type heaps.None = spec.None
abstract_heap_type heaps.NoExtern = spec.NoExtern
abstract_heap_type heaps.NoFunc = spec.NoFunc
abstract_heap_type heaps.Eq = spec.Eq
abstract_heap_type heaps.Struct = spec.Struct
abstract_heap_type heaps.Array = spec.Array
abstract_heap_type heaps.I31 = spec.I31
abstract_heap_type heaps.Exn = spec.Exn
abstract_heap_type heaps.NoExn = spec.NoExn
abstract_heap_type heaps.Cont = spec.Cont
abstract_heap_type heaps.NoCont = spec.NoCont

abbrev pub heap_type : HeapType → spec.HeapType Index
heap_type (Abstract heap) = spec.Abstract (abstract_heap_type heap)
heap_type (Concrete i) = spec.Concrete (index i)

-- what a reference can be packed to: any abstract heap type, and a defined type whose number is small
abbrev pub Packs : spec.HeapType Index → Type 0
Packs (spec.Abstract heap) = Unit {0}
Packs (spec.Concrete i) = number_of i < packable

-- the defined type, if it is one
abbrev pub defined : spec.HeapType Index → Option Index
defined (spec.Abstract heap) = None
defined (spec.Concrete i) = Some i

-- references to an abstract heap type
abbrev pub abstract_ref : Bool → spec.AbstractHeapType → spec.RefType Index
abstract_ref nullable heap = record { nullable = nullable; heap_type = spec.Abstract heap }

abbrev pub abstract_val : spec.AbstractHeapType → spec.ValType Index
abstract_val heap = spec.Ref true (spec.Abstract heap)
