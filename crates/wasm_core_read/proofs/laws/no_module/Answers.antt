use Rattle.std.proofs.Common.{refl}
use Rattle.std.specs.Str.{is_utf8, chars}
use Rattle.wasm_core_read.specs.ModuleReading.{content_of, frame_at, section_at, sections_at, sections_of, module_of}
use Rattle.wasm_core_read.specs.PartReading.{body_at}
use Rattle.wasm_core_read.specs.Reading.{byte_at, unsigned_at, bytes_at, name_at}
use Rattle.wasm_core_read.specs.TypeReading.{items_at, list_at, val_type_at, signature_at, func_type_at, composite_type_at, sub_type_at, rec_group_at}
use Rattle.wasm_core_read.proofs.NoModule.{unread}
use Rattle.wasm_core_read.proofs.laws.no_module.Goals as goal

pub returns : goal.returns
unfolding byte_at unsigned_at bytes_at name_at items_at list_at val_type_at signature_at func_type_at composite_type_at sub_type_at rec_group_at body_at content_of frame_at section_at sections_at sections_of module_of is_utf8 chars lib.Utf8.encode
returns c = record {
  nothing = λ compact. unread compact _ refl;
  cut_header = λ compact. unread compact _ refl;
  version = λ compact. unread compact _ refl;
  another_id = λ compact. unread compact _ refl;
  no_name = λ compact. unread compact _ refl;
  long_size = λ compact. unread compact _ refl;
  long_name = λ compact. unread compact _ refl;
  no_encoding = λ compact. unread compact _ refl;
  overlong = λ compact. unread compact _ refl;
  surrogate = λ compact. unread compact _ refl;
  past_the_last = λ compact. unread compact _ refl;
  functions_first = λ compact. unread compact _ refl;
  types_twice = λ compact. unread compact _ refl;
  no_code = λ compact. unread compact _ refl;
  no_functions = λ compact. unread compact _ refl;
  body_too_many = λ compact. unread compact _ refl;
  long_count = λ compact. unread compact _ refl;
  byte_after = λ compact. unread compact _ refl;
  short_types = λ compact. unread compact _ refl;
}
