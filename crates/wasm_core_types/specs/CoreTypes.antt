-- The types of the code as those of the specification.
use Rattle.std.specs.Prelude.{ℕ}
use Rattle.wasm_spec.specs.Types as spec
use Rattle.wasm_core_types.specs.declared.types.AbstractHeapType.{AbstractHeapType}
use Rattle.wasm_core_types.specs.declared.types.AbstractHeapType.TheVariants as heaps
use Rattle.wasm_core_types.specs.declared.types.HeapType.{HeapType}
use Rattle.wasm_core_types.specs.declared.types.HeapType.TheVariants.{Abstract, Concrete}
use Rattle.wasm_core_types.specs.declared.types.ValType.{ValType}
use Rattle.wasm_core_types.specs.declared.types.ValType.TheVariants.{I32, I64, F32, F64, V128, Ref}
use Rattle.wasm_core_types.specs.declared.types.StorageType.{StorageType}
use Rattle.wasm_core_types.specs.declared.types.StorageType.TheVariants as storages
use Rattle.wasm_core_types.specs.declared.types.FieldType.{FieldType}

abbrev pub abstract_heap_type : AbstractHeapType → spec.AbstractHeapType
abstract_heap_type heaps.Func = spec.Func
abstract_heap_type heaps.Extern = spec.Extern
abstract_heap_type heaps.Any = spec.Any
abstract_heap_type heaps.None = spec.None
abstract_heap_type heaps.NoExtern = spec.NoExtern
abstract_heap_type heaps.NoFunc = spec.NoFunc
abstract_heap_type heaps.Eq = spec.Eq
abstract_heap_type heaps.Struct = spec.Struct
abstract_heap_type heaps.Array = spec.Array
abstract_heap_type heaps.I31 = spec.I31
abstract_heap_type heaps.Exn = spec.Exn
abstract_heap_type heaps.NoExn = spec.NoExn
abstract_heap_type heaps.Cont = spec.Cont
abstract_heap_type heaps.NoCont = spec.NoCont

abbrev pub heap_type : HeapType → spec.HeapType ℕ
heap_type (Abstract heap) = spec.Abstract (abstract_heap_type heap)
heap_type (Concrete index) = spec.Concrete index

abbrev pub val_type : ValType → spec.ValType ℕ
val_type I32 = spec.I32
val_type I64 = spec.I64
val_type F32 = spec.F32
val_type F64 = spec.F64
val_type V128 = spec.V128
val_type (Ref r) = spec.Ref r.nullable (heap_type r.heap_type)

abbrev pub storage_type : StorageType → spec.StorageType ℕ
storage_type storages.I8 = spec.I8
storage_type storages.I16 = spec.I16
storage_type (storages.Val type) = spec.Val (val_type type)

abbrev pub field_type : FieldType → spec.FieldType ℕ
field_type field = record { element_type = storage_type field.element_type; mutable = field.mutable }
