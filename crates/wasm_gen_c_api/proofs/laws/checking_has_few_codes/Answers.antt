use Rattle.wasm_gen_c_api.proofs.CheckCodeLaws.{checked_codes, reported_codes}
use Rattle.wasm_gen_c_api.proofs.laws.checking_has_few_codes.Goals as goal

pub returns-clause-checked : goal.returns-clause-checked
returns-clause-checked c = checked_codes

pub returns-clause-reported : goal.returns-clause-reported
returns-clause-reported c = reported_codes
