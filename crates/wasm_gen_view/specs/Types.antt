-- Types of the code as those of the specification, in which references go to groups by number.
use Rattle.std.specs.Prelude.{map}
use Rattle.std.specs.Option.{option_to_list}
use Rattle.wasm_spec.specs.Types as spec
use Rattle.wasm_gen_view.specs.declared.types.CompositeType.{CompositeType}
use Rattle.wasm_gen_view.specs.declared.types.CompositeType.TheVariants.{Func, Struct, Array, Cont}
use Rattle.wasm_gen_view.specs.declared.types.FieldType.{FieldType}
use Rattle.wasm_gen_view.specs.declared.types.FuncType.{FuncType}
use Rattle.wasm_gen_view.specs.declared.types.HeapType.{HeapType}
use Rattle.wasm_gen_view.specs.declared.types.HeapType.TheVariants as heaps
use Rattle.wasm_gen_view.specs.declared.types.RefType.{RefType}
use Rattle.wasm_gen_view.specs.declared.types.StorageType.{StorageType}
use Rattle.wasm_gen_view.specs.declared.types.StorageType.TheVariants.{I8, I16, Val}
use Rattle.wasm_gen_view.specs.declared.types.SubType.{SubType}
use Rattle.wasm_gen_view.specs.declared.types.TypeReference.{TypeReference}
use Rattle.wasm_gen_view.specs.declared.types.ValType.{ValType}
use Rattle.wasm_gen_view.specs.declared.types.ValType.TheVariants.{I32, I64, F32, F64, V128, Ref}

abbrev pub heap_type : HeapType → spec.HeapType TypeReference
heap_type heaps.Func = spec.Abstract spec.Func
heap_type heaps.Extern = spec.Abstract spec.Extern
heap_type heaps.Any = spec.Abstract spec.Any
heap_type heaps.None = spec.Abstract spec.None
heap_type heaps.NoExtern = spec.Abstract spec.NoExtern
heap_type heaps.NoFunc = spec.Abstract spec.NoFunc
heap_type heaps.Eq = spec.Abstract spec.Eq
heap_type heaps.Struct = spec.Abstract spec.Struct
heap_type heaps.Array = spec.Abstract spec.Array
heap_type heaps.I31 = spec.Abstract spec.I31
heap_type heaps.Exn = spec.Abstract spec.Exn
heap_type heaps.NoExn = spec.Abstract spec.NoExn
heap_type heaps.Cont = spec.Abstract spec.Cont
heap_type heaps.NoCont = spec.Abstract spec.NoCont
heap_type (heaps.Defined reference) = spec.Concrete reference

abbrev pub ref_type : RefType → spec.RefType TypeReference
ref_type type = record { nullable = type.nullable; heap_type = heap_type type.heap_type }

abbrev pub val_type : ValType → spec.ValType TypeReference
val_type I32 = spec.I32
val_type I64 = spec.I64
val_type F32 = spec.F32
val_type F64 = spec.F64
val_type V128 = spec.V128
val_type (Ref type) = spec.Ref type.nullable (heap_type type.heap_type)

abbrev pub storage_type : StorageType → spec.StorageType TypeReference
storage_type I8 = spec.I8
storage_type I16 = spec.I16
storage_type (Val type) = spec.Val (val_type type)

abbrev pub field_type : FieldType → spec.FieldType TypeReference
field_type field = record { element_type = storage_type field.element_type; mutable = field.mutable }

abbrev pub func_type : FuncType → spec.FuncType TypeReference
func_type type = record { params = map val_type type.params.items; results = map val_type type.results.items }

abbrev pub composite_type : CompositeType → spec.CompositeType TypeReference
composite_type (Func type) = spec.FuncComposite (func_type type)
composite_type (Struct fields) = spec.StructComposite (map field_type fields.items)
composite_type (Array field) = spec.ArrayComposite (field_type field)
composite_type (Cont function) = spec.ContComposite function

abbrev pub sub_type : SubType → spec.SubType TypeReference
sub_type type = record {
  is_final = type.is_final;
  supertypes = option_to_list type.supertype;
  composite_type = composite_type type.composite_type;
}
