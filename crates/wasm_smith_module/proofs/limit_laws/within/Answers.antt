use Rattle.wasm_smith_module.proofs.MadeLimits.{limits_kept}
use Rattle.wasm_smith_module.proofs.limit_laws.within.Goals as goal

pub returns : goal.returns
returns c = limits_kept
