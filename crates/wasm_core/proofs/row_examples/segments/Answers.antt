use Rattle.std.proofs.Common.{refl}
use Rattle.std.specs.Str.{is_utf8, chars}
use Rattle.wasm_spec.specs.ModuleParts.{IsDataSegment, IsElementSegment}
use Rattle.wasm_core_read.specs.Reading.{byte_at, unsigned_at, last_signed, signed_at, bytes_at, float_at, name_at}
use Rattle.wasm_core_read.specs.TypeReading.{items_at, list_at, heap_index_at, heap_type_at, val_type_at, ref_type_at, storage_type_at, mutability_at, field_type_at, signature_at, func_type_at, composite_type_at, sub_type_at, rec_group_at, limits_at, table_limits_at, table_type_at, global_type_at, tag_type_at, external_kind_at, external_type_at}
use Rattle.wasm_core_read.specs.ConstantReading.{operator_at, operators_at, expression_at}
use Rattle.wasm_core_read.specs.PartReading.{body_at, import_item_at, import_at, export_at, table_at, global_at, element_at, data_at}
use Rattle.wasm_core_read.proofs.PartForms.{reads_data, reads_element}
use Rattle.wasm_core.proofs.Rows.{has_value, has_none}
use Rattle.wasm_core.proofs.row_examples.segments.Goals as goal

pub returns : goal.returns
unfolding byte_at unsigned_at last_signed signed_at bytes_at float_at name_at items_at list_at heap_index_at heap_type_at val_type_at ref_type_at storage_type_at mutability_at field_type_at signature_at func_type_at composite_type_at sub_type_at rec_group_at limits_at table_limits_at table_type_at global_type_at tag_type_at external_kind_at external_type_at operator_at operators_at expression_at body_at import_item_at import_at export_at table_at global_at element_at data_at is_utf8 chars lib.Utf8.encode
returns c = record {
  element_0 = has_value IsElementSegment (element_at) (reads_element) _ refl refl;
  no_element_0 = has_none IsElementSegment (element_at) (reads_element) _ refl;
  element_1 = has_value IsElementSegment (element_at) (reads_element) _ refl refl;
  no_element_1 = has_none IsElementSegment (element_at) (reads_element) _ refl;
  element_2 = has_value IsElementSegment (element_at) (reads_element) _ refl refl;
  no_element_2 = has_none IsElementSegment (element_at) (reads_element) _ refl;
  element_3 = has_value IsElementSegment (element_at) (reads_element) _ refl refl;
  no_element_3 = has_none IsElementSegment (element_at) (reads_element) _ refl;
  element_4 = has_value IsElementSegment (element_at) (reads_element) _ refl refl;
  no_element_4 = has_none IsElementSegment (element_at) (reads_element) _ refl;
  element_5 = has_value IsElementSegment (element_at) (reads_element) _ refl refl;
  no_element_5 = has_none IsElementSegment (element_at) (reads_element) _ refl;
  element_6 = has_value IsElementSegment (element_at) (reads_element) _ refl refl;
  no_element_6 = has_none IsElementSegment (element_at) (reads_element) _ refl;
  element_7 = has_value IsElementSegment (element_at) (reads_element) _ refl refl;
  no_element_7 = has_none IsElementSegment (element_at) (reads_element) _ refl;
  data_0 = has_value IsDataSegment (data_at) (reads_data) _ refl refl;
  no_data_0 = has_none IsDataSegment (data_at) (reads_data) _ refl;
  data_1 = has_value IsDataSegment (data_at) (reads_data) _ refl refl;
  no_data_1 = has_none IsDataSegment (data_at) (reads_data) _ refl;
  data_2 = has_value IsDataSegment (data_at) (reads_data) _ refl refl;
  no_data_2 = has_none IsDataSegment (data_at) (reads_data) _ refl;
}
