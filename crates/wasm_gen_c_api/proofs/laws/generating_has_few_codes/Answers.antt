use Rattle.wasm_gen_c_api.proofs.CodeLaws.{few_codes, made_codes}
use Rattle.wasm_gen_c_api.proofs.laws.generating_has_few_codes.Goals as goal

pub returns-clause-given : goal.returns-clause-given
returns-clause-given c = made_codes

pub returns-clause-by_default : goal.returns-clause-by_default
returns-clause-by_default c = few_codes
