use Rattle.wasm_encoder_sections_laws.proofs.SameSections.{same}
use Rattle.wasm_encoder_sections_laws.proofs.laws.same_sections.Goals as goal

pub returns : goal.returns
returns c = same
