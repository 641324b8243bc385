use Rattle.wasm_core_read.proofs.ModuleForms.{module_one}
use Rattle.wasm_core_read.proofs.laws.one_module.Goals as goal

pub returns : goal.returns
returns c = module_one
