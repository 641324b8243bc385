use Rattle.std.proofs.Common.{refl}
use Rattle.std.specs.Str.{is_utf8, chars}
use Rattle.wasm_core_read.specs.ModuleReading.{content_of, frame_at, section_at, sections_at, sections_of, module_of}
use Rattle.wasm_core_read.specs.PartReading.{body_at}
use Rattle.wasm_core_read.specs.Reading.{byte_at, unsigned_at, bytes_at, name_at}
use Rattle.wasm_core_read.specs.TypeReading.{items_at, list_at, val_type_at, signature_at, func_type_at, composite_type_at, sub_type_at, rec_group_at}
use Rattle.wasm_core_read.proofs.NoModule.{unread}
use Rattle.wasm_core_read.proofs.laws.swapped_sections.Goals as goal

pub returns : goal.returns
unfolding byte_at unsigned_at bytes_at name_at items_at list_at val_type_at signature_at func_type_at composite_type_at sub_type_at rec_group_at body_at content_of frame_at section_at sections_at sections_of module_of is_utf8 chars lib.Utf8.encode
returns c = record {
  import_before_type = λ compact. unread compact _ refl;
  function_before_import = λ compact. unread compact _ refl;
  table_before_function = λ compact. unread compact _ refl;
  memory_before_table = λ compact. unread compact _ refl;
  tag_before_memory = λ compact. unread compact _ refl;
  global_before_tag = λ compact. unread compact _ refl;
  export_before_global = λ compact. unread compact _ refl;
  start_before_export = λ compact. unread compact _ refl;
  element_before_start = λ compact. unread compact _ refl;
  data_count_before_element = λ compact. unread compact _ refl;
  code_before_data_count = λ compact. unread compact _ refl;
  data_before_code = λ compact. unread compact _ refl;
}
