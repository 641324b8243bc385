use Rattle.wasm_gen_c_api.proofs.CallLaws.{accepted_by_default, is_accepted}
use Rattle.wasm_gen_c_api.proofs.laws.generated_is_accepted.Goals as goal

pub returns-clause-given : goal.returns-clause-given
returns-clause-given c = is_accepted

pub returns-clause-by_default : goal.returns-clause-by_default
returns-clause-by_default c = accepted_by_default
