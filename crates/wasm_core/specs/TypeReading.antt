-- The reading functions of types, under the name of this crate.
pub use Rattle.wasm_core_read.specs.TypeReading.{look_up, coded, heap_codes, shorthand, val_type_codes, final_type}
unfoldable pub use Rattle.wasm_core_read.specs.TypeReading.{items_at, list_at, heap_index_at, heap_type_at, val_type_at, signature_at, func_type_at, field_type_at, composite_type_at, sub_type_at, rec_group_at}
