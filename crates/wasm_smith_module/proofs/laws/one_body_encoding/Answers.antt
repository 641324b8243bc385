use Rattle.wasm_smith_module.proofs.OneEncoding.{same_body}
use Rattle.wasm_smith_module.proofs.laws.one_body_encoding.Goals as goal

pub returns : goal.returns
returns c = same_body c.one_list_of_runs.ensures
