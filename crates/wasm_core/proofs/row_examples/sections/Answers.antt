use Rattle.std.proofs.Common.{true, false, refl}
use Rattle.std.specs.Str.{is_utf8, chars}
use Rattle.wasm_spec.specs.Grammar.{IsSection}
use Rattle.wasm_spec.specs.ModuleParts.{IsExport, IsGlobal, IsImport, IsTable}
use Rattle.wasm_spec.specs.TypeGrammar.{IsMemoryType, IsTagType}
use Rattle.wasm_core_read.specs.Reading.{byte_at, unsigned_at, last_signed, signed_at, bytes_at, float_at, name_at}
use Rattle.wasm_core_read.specs.TypeReading.{items_at, list_at, heap_index_at, heap_type_at, val_type_at, ref_type_at, storage_type_at, mutability_at, field_type_at, signature_at, func_type_at, composite_type_at, sub_type_at, rec_group_at, limits_at, table_limits_at, table_type_at, global_type_at, tag_type_at, external_kind_at, external_type_at}
use Rattle.wasm_core_read.specs.ConstantReading.{operator_at, operators_at, expression_at}
use Rattle.wasm_core_read.specs.PartReading.{body_at, import_item_at, import_at, export_at, table_at, global_at, element_at, data_at}
use Rattle.wasm_core_read.specs.ModuleReading.{content_of, frame_at, section_at, sections_at, sections_of, module_of}
use Rattle.wasm_core_read.proofs.ExternalForms.{reads_limits, reads_tag_type}
use Rattle.wasm_core_read.proofs.ModuleForms.{reads_section}
use Rattle.wasm_core_read.proofs.PartForms.{reads_export, reads_global, reads_import, reads_table}
use Rattle.wasm_core.proofs.Rows.{either, has_value, has_none}
use Rattle.wasm_core.proofs.row_examples.sections.Goals as goal

pub returns : goal.returns
unfolding byte_at unsigned_at last_signed signed_at bytes_at float_at name_at items_at list_at heap_index_at heap_type_at val_type_at ref_type_at storage_type_at mutability_at field_type_at signature_at func_type_at composite_type_at sub_type_at rec_group_at limits_at table_limits_at table_type_at global_type_at tag_type_at external_kind_at external_type_at operator_at operators_at expression_at body_at import_item_at import_at export_at table_at global_at element_at data_at content_of frame_at section_at sections_at sections_of module_of is_utf8 chars lib.Utf8.encode
returns c = record {
  custom = λ compact. has_value (IsSection compact) (section_at compact) (reads_section compact) _ refl refl;
  no_custom = λ compact. has_none (IsSection compact) (section_at compact) (reads_section compact) _ refl;
  function = λ compact. has_value (IsSection compact) (section_at compact) (reads_section compact) _ refl refl;
  no_function = λ compact. has_none (IsSection compact) (section_at compact) (reads_section compact) _ refl;
  start = λ compact. has_value (IsSection compact) (section_at compact) (reads_section compact) _ refl refl;
  no_start = λ compact. has_none (IsSection compact) (section_at compact) (reads_section compact) _ refl;
  code = λ compact. has_value (IsSection compact) (section_at compact) (reads_section compact) _ refl refl;
  no_code = λ compact. has_none (IsSection compact) (section_at compact) (reads_section compact) _ refl;
  import = either _ (has_value (IsImport true) (import_at true) (reads_import true) _ refl refl) (has_value (IsImport false) (import_at false) (reads_import false) _ refl refl);
  no_import = either _ (has_none (IsImport true) (import_at true) (reads_import true) _ refl) (has_none (IsImport false) (import_at false) (reads_import false) _ refl);
  table = has_value IsTable (table_at) (reads_table) _ refl refl;
  no_table = has_none IsTable (table_at) (reads_table) _ refl;
  memory = has_value IsMemoryType (limits_at) (reads_limits) _ refl refl;
  no_memory = has_none IsMemoryType (limits_at) (reads_limits) _ refl;
  global = has_value IsGlobal (global_at) (reads_global) _ refl refl;
  no_global = has_none IsGlobal (global_at) (reads_global) _ refl;
  export = has_value IsExport (export_at) (reads_export) _ refl refl;
  no_export = has_none IsExport (export_at) (reads_export) _ refl;
  tag = has_value IsTagType (tag_type_at) (reads_tag_type) _ refl refl;
  no_tag = has_none IsTagType (tag_type_at) (reads_tag_type) _ refl;
}
