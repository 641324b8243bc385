use Rattle.wasm_core_read.proofs.Forms.{reads_byte, reads_unsigned, reads_bytes, reads_name, reads_body}
use Rattle.wasm_core_read.proofs.ModuleForms.{reads_frame, reads_section, fills_module}
use Rattle.wasm_core_read.proofs.NumberForms.{reads_signed, reads_float}
use Rattle.wasm_core_read.proofs.TypeForms.{reads_heap_type, reads_ref_type, reads_val_type, reads_storage_type, reads_field_type, reads_func_type, reads_composite_type, reads_sub_type, reads_rec_group}
use Rattle.wasm_core_read.proofs.ExternalForms.{reads_limits, reads_table_type, reads_global_type, reads_tag_type, reads_external_kind, reads_external_type}
use Rattle.wasm_core_read.proofs.ConstantForms.{reads_operator, reads_expression}
use Rattle.wasm_core_read.proofs.PartForms.{reads_table, reads_global, reads_export, reads_element, reads_data, reads_import}
use Rattle.wasm_core_read.proofs.laws.reads_exactly.Goals as goal

pub returns : goal.returns
returns c = record {
  byte = reads_byte;
  number = reads_unsigned;
  signed = reads_signed;
  bytes = reads_bytes;
  float = reads_float;
  name = reads_name;
  heap_type = reads_heap_type;
  ref_type = reads_ref_type;
  val_type = reads_val_type;
  storage_type = reads_storage_type;
  field_type = reads_field_type;
  func_type = reads_func_type;
  composite_type = reads_composite_type;
  sub_type = reads_sub_type;
  rec_group = reads_rec_group;
  limits = reads_limits;
  table_type = reads_table_type;
  global_type = reads_global_type;
  tag_type = reads_tag_type;
  external_kind = reads_external_kind;
  external_type = reads_external_type;
  operator = reads_operator;
  expression = reads_expression;
  table = reads_table;
  global = reads_global;
  export = reads_export;
  element_segment = reads_element;
  data_segment = reads_data;
  body = reads_body;
  frame = reads_frame;
  import = reads_import;
  section = reads_section;
  sections = fills_module;
}
