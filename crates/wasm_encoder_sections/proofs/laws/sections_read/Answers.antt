use Rattle.wasm_encoder_sections.proofs.ShortestSections.{reads}
use Rattle.wasm_encoder_sections.proofs.laws.sections_read.Goals as goal

pub returns : goal.returns
returns c = reads
