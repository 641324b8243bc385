-- The encodings of the types of the code, under the name of this crate.
unfoldable pub use Rattle.wasm_core_write.specs.CoreEncodings.{heap_type_encoding, ref_type_encoding, val_type_encoding, storage_type_encoding, field_type_encoding, composite_type_encoding, sub_type_encoding}
