use Rattle.std.proofs.Common.{true, false, refl}
use Rattle.std.specs.Str.{is_utf8, chars}
use Rattle.wasm_spec.specs.ConstantGrammar.{IsConstantExpression, IsConstantOperator}
use Rattle.wasm_spec.specs.ModuleParts.{IsImport}
use Rattle.wasm_core_read.specs.Reading.{byte_at, unsigned_at, last_signed, signed_at, bytes_at, float_at, name_at}
use Rattle.wasm_core_read.specs.TypeReading.{items_at, list_at, heap_index_at, heap_type_at, val_type_at, ref_type_at, storage_type_at, mutability_at, field_type_at, signature_at, func_type_at, composite_type_at, sub_type_at, rec_group_at, limits_at, table_limits_at, table_type_at, global_type_at, tag_type_at, external_kind_at, external_type_at}
use Rattle.wasm_core_read.specs.ConstantReading.{operator_at, operators_at, expression_at}
use Rattle.wasm_core_read.specs.PartReading.{body_at, import_item_at, import_at, export_at, table_at, global_at, element_at, data_at}
use Rattle.wasm_core_read.proofs.ConstantForms.{reads_expression, reads_operator}
use Rattle.wasm_core_read.proofs.PartForms.{reads_import}
use Rattle.wasm_core.proofs.Rows.{either, has_value, has_none}
use Rattle.wasm_core.proofs.row_examples.entries.Goals as goal

pub returns : goal.returns
unfolding byte_at unsigned_at last_signed signed_at bytes_at float_at name_at items_at list_at heap_index_at heap_type_at val_type_at ref_type_at storage_type_at mutability_at field_type_at signature_at func_type_at composite_type_at sub_type_at rec_group_at limits_at table_limits_at table_type_at global_type_at tag_type_at external_kind_at external_type_at operator_at operators_at expression_at body_at import_item_at import_at export_at table_at global_at element_at data_at is_utf8 chars lib.Utf8.encode
returns c = record {
  import = either _ (has_value (IsImport true) (import_at true) (reads_import true) _ refl refl) (has_value (IsImport false) (import_at false) (reads_import false) _ refl refl);
  no_import = either _ (has_none (IsImport true) (import_at true) (reads_import true) _ refl) (has_none (IsImport false) (import_at false) (reads_import false) _ refl);
  compact_import = has_value (IsImport true) (import_at true) (reads_import true) _ refl refl;
  no_without_the_feature = has_none (IsImport false) (import_at false) (reads_import false) _ refl;
  expression = has_value IsConstantExpression (expression_at) (reads_expression) _ refl refl;
  no_expression = has_none IsConstantExpression (expression_at) (reads_expression) _ refl;
  operator = has_value IsConstantOperator (operator_at) (reads_operator) _ refl refl;
  no_operator = has_none IsConstantOperator (operator_at) (reads_operator) _ refl;
}
