use Rattle.wasm_smith_module.proofs.MadeLimits.{limit_passed}
use Rattle.wasm_smith_module.proofs.limit_laws.passed.Goals as goal

pub returns : goal.returns
returns c = limit_passed
