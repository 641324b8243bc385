use Rattle.std.proofs.Common.{refl}
use Rattle.std.specs.Str.{is_utf8, chars}
use Rattle.wasm_spec.specs.TypeGrammar.{IsCompositeType, IsFieldType, IsGlobalType, IsHeapType, IsLimits, IsRecGroup, IsRefType, IsSubType, IsTableType, IsValType}
use Rattle.wasm_core_read.specs.Reading.{byte_at, unsigned_at, last_signed, signed_at, bytes_at, float_at, name_at}
use Rattle.wasm_core_read.specs.TypeReading.{items_at, list_at, heap_index_at, heap_type_at, val_type_at, ref_type_at, storage_type_at, mutability_at, field_type_at, signature_at, func_type_at, composite_type_at, sub_type_at, rec_group_at, limits_at, table_limits_at, table_type_at, global_type_at, tag_type_at, external_kind_at, external_type_at}
use Rattle.wasm_core_read.proofs.ExternalForms.{reads_global_type, reads_limits, reads_table_type}
use Rattle.wasm_core_read.proofs.TypeForms.{reads_composite_type, reads_field_type, reads_heap_type, reads_rec_group, reads_ref_type, reads_sub_type, reads_val_type}
use Rattle.wasm_core.proofs.Rows.{has_value, has_none}
use Rattle.wasm_core.proofs.row_examples.types.Goals as goal

pub returns : goal.returns
unfolding byte_at unsigned_at last_signed signed_at bytes_at float_at name_at items_at list_at heap_index_at heap_type_at val_type_at ref_type_at storage_type_at mutability_at field_type_at signature_at func_type_at composite_type_at sub_type_at rec_group_at limits_at table_limits_at table_type_at global_type_at tag_type_at external_kind_at external_type_at is_utf8 chars lib.Utf8.encode
returns c = record {
  heap_type = has_value IsHeapType (heap_type_at) (reads_heap_type) _ refl refl;
  no_heap_type = has_none IsHeapType (heap_type_at) (reads_heap_type) _ refl;
  reference = has_value IsRefType (ref_type_at) (reads_ref_type) _ refl refl;
  no_reference = has_none IsRefType (ref_type_at) (reads_ref_type) _ refl;
  nullable_reference = has_value IsRefType (ref_type_at) (reads_ref_type) _ refl refl;
  value_type = has_value IsValType (val_type_at) (reads_val_type) _ refl refl;
  no_value_type = has_none IsValType (val_type_at) (reads_val_type) _ refl;
  field = has_value IsFieldType (field_type_at) (reads_field_type) _ refl refl;
  no_field = has_none IsFieldType (field_type_at) (reads_field_type) _ refl;
  composite_type = has_value IsCompositeType (composite_type_at) (reads_composite_type) _ refl refl;
  no_composite_type = has_none IsCompositeType (composite_type_at) (reads_composite_type) _ refl;
  sub_type = has_value IsSubType (sub_type_at) (reads_sub_type) _ refl refl;
  no_sub_type = has_none IsSubType (sub_type_at) (reads_sub_type) _ refl;
  group = has_value IsRecGroup (rec_group_at) (reads_rec_group) _ refl refl;
  no_group = has_none IsRecGroup (rec_group_at) (reads_rec_group) _ refl;
  limits = has_value IsLimits (limits_at) (reads_limits) _ refl refl;
  no_limits = has_none IsLimits (limits_at) (reads_limits) _ refl;
  table_type = has_value IsTableType (table_type_at) (reads_table_type) _ refl refl;
  no_table_type = has_none IsTableType (table_type_at) (reads_table_type) _ refl;
  no_table_type_with_pages = has_none IsTableType (table_type_at) (reads_table_type) _ refl;
  global_type = has_value IsGlobalType (global_type_at) (reads_global_type) _ refl refl;
  no_global_type = has_none IsGlobalType (global_type_at) (reads_global_type) _ refl;
}
