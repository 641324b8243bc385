-- The encodings of the types of the code.
use Rattle.std.specs.Prelude.{ℕ, List}
use Rattle.wasm_spec.specs.TypeEncodings.{heap_encoding, ref_encoding, val_encoding, storage_encoding, field_encoding, composite_encoding, sub_encoding}
use Rattle.wasm_core_types.specs.CoreTypes.{heap_type, val_type, storage_type, field_type}
use Rattle.wasm_core_types.specs.SubTypes.{composite_type, sub_type}
use Rattle.wasm_core_types.specs.declared.types.HeapType.{HeapType}
use Rattle.wasm_core_types.specs.declared.types.RefType.{RefType}
use Rattle.wasm_core_types.specs.declared.types.ValType.{ValType}
use Rattle.wasm_core_types.specs.declared.types.ValType.TheVariants.{I32, I64, F32, F64, V128, Ref}
use Rattle.wasm_core_types.specs.declared.types.StorageType.{StorageType}
use Rattle.wasm_core_types.specs.declared.types.FieldType.{FieldType}
use Rattle.wasm_core_types.specs.declared.types.CompositeType.{CompositeType}
use Rattle.wasm_core_types.specs.declared.types.SubType.{SubType}

unfoldable pub heap_type_encoding : HeapType → List ℕ
heap_type_encoding heap = heap_encoding (heap_type heap)

unfoldable pub ref_type_encoding : RefType → List ℕ
ref_type_encoding type = ref_encoding type.nullable (heap_type type.heap_type)

-- The byte of a number or vector type, which is its whole encoding. A reference has no such byte; the one that stands here is never written.
abbrev pub number_code : ValType → ℕ
number_code I32 = 0x7f
number_code I64 = 0x7e
number_code F32 = 0x7d
number_code F64 = 0x7c
number_code V128 = 0x7b
number_code (Ref reference) = 0x63

unfoldable pub val_type_encoding : ValType → List ℕ
val_type_encoding type = val_encoding (val_type type)

unfoldable pub storage_type_encoding : StorageType → List ℕ
storage_type_encoding type = storage_encoding (storage_type type)

unfoldable pub field_type_encoding : FieldType → List ℕ
field_type_encoding field = field_encoding (field_type field)

unfoldable pub composite_type_encoding : CompositeType → List ℕ
composite_type_encoding type = composite_encoding (composite_type type)

unfoldable pub sub_type_encoding : SubType → List ℕ
sub_type_encoding type = sub_encoding (sub_type type)
