-- Types of values and fields of the code as those of the specification.
use Rattle.std.specs.Prelude.{Bool, true, Option, Some, None}
use Rattle.wasm_spec.specs.Types as spec
use Rattle.wasmparser_types.specs.Index.{Index}
use Rattle.wasmparser_types.specs.declared.val_type.ValType.{ValType}
use Rattle.wasmparser_types.specs.declared.val_type.ValType.TheVariants.{I32, I64, F32, F64, V128, Ref}
use Rattle.wasmparser_types.specs.declared.val_type.StorageType.{StorageType}
use Rattle.wasmparser_types.specs.declared.val_type.StorageType.TheVariants as storages
use Rattle.wasmparser_types.specs.declared.val_type.FieldType.{FieldType}

abbrev pub val_type : ValType → spec.ValType Index
val_type I32 = spec.I32
val_type I64 = spec.I64
val_type F32 = spec.F32
val_type F64 = spec.F64
val_type V128 = spec.V128
val_type (Ref type) = spec.Ref type.nullable type.heap_type

abbrev pub storage_type : StorageType → spec.StorageType Index
storage_type storages.I8 = spec.I8
storage_type storages.I16 = spec.I16
storage_type (storages.Val type) = spec.Val (val_type type)

abbrev pub field_type : FieldType → spec.FieldType Index
field_type field = record { element_type = storage_type field.element_type; mutable = field.mutable }

-- the reference type, if it is one
abbrev pub reference_type : spec.ValType Index → Option (spec.RefType Index)
reference_type spec.I32 = None
reference_type spec.I64 = None
reference_type spec.F32 = None
reference_type spec.F64 = None
reference_type spec.V128 = None
reference_type (spec.Ref nullable heap) = Some (record { nullable = nullable; heap_type = heap })

-- whether the type has a value that locals begin with: 0, or null (Core Specification 3.0, Validation, "Value Types")
abbrev pub is_defaultable : spec.ValType Index → Bool
is_defaultable spec.I32 = true
is_defaultable spec.I64 = true
is_defaultable spec.F32 = true
is_defaultable spec.F64 = true
is_defaultable spec.V128 = true
is_defaultable (spec.Ref nullable heap) = nullable

-- what a field of this type gives when it is read
abbrev pub unpacked_type : spec.StorageType Index → spec.ValType Index
unpacked_type spec.I8 = spec.I32
unpacked_type spec.I16 = spec.I32
unpacked_type (spec.Val type) = type
