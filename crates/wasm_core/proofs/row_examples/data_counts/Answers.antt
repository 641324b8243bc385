use Rattle.std.proofs.Common.{[], ◌∷◌, ◌++◌, refl}
use Rattle.wasm_spec.specs.Grammar.{header}
use Rattle.wasm_spec.specs.Syntax.{DataCountSection}
use Rattle.std.specs.Str.{is_utf8, chars}
use Rattle.wasm_core_read.specs.ModuleReading.{content_of, frame_at, section_at, sections_at, sections_of, module_of}
use Rattle.wasm_core_read.specs.PartReading.{body_at}
use Rattle.wasm_core_read.specs.Reading.{byte_at, unsigned_at, bytes_at, name_at}
use Rattle.wasm_core_read.specs.TypeReading.{items_at, list_at, val_type_at, signature_at, func_type_at, composite_type_at, sub_type_at, rec_group_at}
use Rattle.wasm_core_read.proofs.ModuleForms.{fills_module}
use Rattle.wasm_core_read.proofs.NoModule.{unread}
use Rattle.wasm_core.proofs.Rows.{are_bytes}
use Rattle.wasm_core.proofs.row_examples.data_counts.Goals as goal

pub returns : goal.returns
unfolding byte_at unsigned_at bytes_at name_at items_at list_at val_type_at signature_at func_type_at composite_type_at sub_type_at rec_group_at body_at content_of frame_at section_at sections_at sections_of module_of is_utf8 chars lib.Utf8.encode
returns c = record {
  none = λ compact. (DataCountSection 0 ∷ [], (fills_module compact).found (header ++ (0x0c ∷ 0x01 ∷ 0x00 ∷ [])) (DataCountSection 0 ∷ []) (are_bytes (header ++ (0x0c ∷ 0x01 ∷ 0x00 ∷ [])) refl) refl);
  one = λ compact. unread compact _ refl;
}
