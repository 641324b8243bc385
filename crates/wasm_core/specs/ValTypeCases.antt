-- The cases of value and storage types in the code, under the name of this crate.
pub use Rattle.wasm_core_types.specs.declared.types.ValType.TheVariants.{I32, I64, F32, F64, V128, Ref}
pub use Rattle.wasm_core_types.specs.declared.types.StorageType.TheVariants.{I8, I16, Val}
