use Rattle.std.proofs.Common.{refl, arith}
use Rattle.wasm_core_read.specs.ModuleReading.{content_of, frame_at, section_at, sections_at, sections_of, module_of}
use Rattle.wasm_core_read.specs.PartReading.{body_at}
use Rattle.wasm_core_read.specs.Reading.{byte_at, unsigned_at, bytes_at, name_at}
use Rattle.wasm_core_read.specs.TypeReading.{items_at, list_at, val_type_at, signature_at, func_type_at, composite_type_at, sub_type_at, rec_group_at}
use Rattle.wasm_core_read.proofs.ModuleForms.{fills_module}
use Rattle.wasm_core_read.proofs.laws.modules_read.Goals as goal

pub returns : goal.returns
unfolding byte_at unsigned_at bytes_at name_at items_at list_at val_type_at signature_at func_type_at composite_type_at sub_type_at rec_group_at body_at content_of frame_at section_at sections_at sections_of module_of
returns c = record {
  three = λ compact. (fills_module compact).found _ _ (search arith) refl;
  padded = λ compact. (fills_module compact).found _ _ (search arith) refl;
}
