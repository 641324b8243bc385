use Rattle.wasm_encoder_sections_laws.proofs.ReadModules.{modules}
use Rattle.wasm_encoder_sections_laws.proofs.laws.modules_read.Goals as goal

pub returns : goal.returns
returns c = modules
