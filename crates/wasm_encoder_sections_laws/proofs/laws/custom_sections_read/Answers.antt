use Rattle.std.proofs.Common.{refl}
use Rattle.wasm_encoder_sections.proofs.ShortestImports as shortest
use Rattle.wasm_encoder_sections.specs.ItemEncodings.{name_encoding}
use Rattle.wasm_encoder_sections_laws.proofs.laws.custom_sections_read.Goals as goal

pub returns : goal.returns
returns c = λ compact name bytes text short are. (name_encoding name, bytes, refl, (shortest.name name text short).encodes, (are, refl))
