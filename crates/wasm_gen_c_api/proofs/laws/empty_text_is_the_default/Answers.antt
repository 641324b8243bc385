use Rattle.wasm_gen_c_api.proofs.DefaultLaws.{made_by_default, told_by_default}
use Rattle.wasm_gen_c_api.proofs.laws.empty_text_is_the_default.Goals as goal

pub returns-clause-made : goal.returns-clause-made
returns-clause-made c = made_by_default

pub returns-clause-told : goal.returns-clause-told
returns-clause-told c = told_by_default
