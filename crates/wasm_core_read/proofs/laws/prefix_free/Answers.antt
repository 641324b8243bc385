use Rattle.wasm_core_read.proofs.Forms.{reads_byte, reads_unsigned, reads_name, reads_body, prefix_free}
use Rattle.wasm_core_read.proofs.ModuleForms.{reads_frame, reads_section}
use Rattle.wasm_core_read.proofs.NumberForms.{reads_signed, reads_float}
use Rattle.wasm_core_read.proofs.TypeForms.{reads_heap_type, reads_ref_type, reads_val_type, reads_storage_type, reads_field_type, reads_func_type, reads_composite_type, reads_sub_type, reads_rec_group}
use Rattle.wasm_core_read.proofs.ExternalForms.{reads_limits, reads_table_type, reads_global_type, reads_tag_type, reads_external_kind, reads_external_type}
use Rattle.wasm_core_read.proofs.ConstantForms.{reads_operator, reads_expression}
use Rattle.wasm_core_read.proofs.PartForms.{reads_table, reads_global, reads_export, reads_element, reads_data, reads_import}
use Rattle.wasm_core_read.proofs.laws.prefix_free.Goals as goal

pub returns : goal.returns
returns c = record {
  byte = prefix_free _ _ reads_byte;
  number = λ bits. prefix_free _ _ (reads_unsigned bits);
  signed = λ bits. prefix_free _ _ (reads_signed bits);
  float = λ len. prefix_free _ _ (reads_float len);
  name = prefix_free _ _ reads_name;
  heap_type = prefix_free _ _ reads_heap_type;
  ref_type = prefix_free _ _ reads_ref_type;
  val_type = prefix_free _ _ reads_val_type;
  storage_type = prefix_free _ _ reads_storage_type;
  field_type = prefix_free _ _ reads_field_type;
  func_type = prefix_free _ _ reads_func_type;
  composite_type = prefix_free _ _ reads_composite_type;
  sub_type = prefix_free _ _ reads_sub_type;
  rec_group = prefix_free _ _ reads_rec_group;
  limits = prefix_free _ _ reads_limits;
  table_type = prefix_free _ _ reads_table_type;
  global_type = prefix_free _ _ reads_global_type;
  tag_type = prefix_free _ _ reads_tag_type;
  external_kind = prefix_free _ _ reads_external_kind;
  external_type = prefix_free _ _ reads_external_type;
  operator = prefix_free _ _ reads_operator;
  expression = prefix_free _ _ reads_expression;
  table = prefix_free _ _ reads_table;
  global = prefix_free _ _ reads_global;
  export = prefix_free _ _ reads_export;
  element_segment = prefix_free _ _ reads_element;
  data_segment = prefix_free _ _ reads_data;
  body = prefix_free _ _ reads_body;
  frame = prefix_free _ _ reads_frame;
  import = λ compact. prefix_free _ _ (reads_import compact);
  section = λ compact. prefix_free _ _ (reads_section compact);
}
