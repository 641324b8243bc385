-- The types of the parts, under the name of this crate.
pub use Rattle.wasm_core_types.specs.declared.features.WasmFeatures.{WasmFeatures}
pub use Rattle.wasm_core_types.specs.declared.limits.Limit.{Limit}
pub use Rattle.wasm_core_read.specs.declared.malformed.Malformed.{Malformed}
pub use Rattle.wasm_core_types.specs.declared.types.AbstractHeapType.{AbstractHeapType}
pub use Rattle.wasm_core_types.specs.declared.types.HeapType.{HeapType}
pub use Rattle.wasm_core_types.specs.declared.types.RefType.{RefType}
pub use Rattle.wasm_core_types.specs.declared.types.ValType.{ValType}
pub use Rattle.wasm_core_types.specs.declared.types.StorageType.{StorageType}
pub use Rattle.wasm_core_types.specs.declared.types.FieldType.{FieldType}
pub use Rattle.wasm_core_types.specs.declared.types.FuncType.{FuncType}
pub use Rattle.wasm_core_types.specs.declared.types.StructType.{StructType}
pub use Rattle.wasm_core_types.specs.declared.types.ArrayType.{ArrayType}
pub use Rattle.wasm_core_types.specs.declared.types.ContType.{ContType}
pub use Rattle.wasm_core_types.specs.declared.types.CompositeType.{CompositeType}
pub use Rattle.wasm_core_types.specs.declared.types.SubType.{SubType}
pub use Rattle.wasm_core_write.specs.declared.encode_error.EncodeError.{EncodeError}
