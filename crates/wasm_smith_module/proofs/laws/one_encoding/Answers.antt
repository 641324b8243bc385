use Rattle.wasm_smith_module.proofs.OneEncoding.{same_encoding}
use Rattle.wasm_smith_module.proofs.laws.one_encoding.Goals as goal

pub returns : goal.returns
returns c = same_encoding c.one_list_of_runs.ensures
