use Rattle.wasm_smith_validity.proofs.ValidModules.{is_valid}
use Rattle.wasm_smith_validity.proofs.module_laws.valid_modules.Goals as goal

pub returns : goal.returns
returns c = is_valid
