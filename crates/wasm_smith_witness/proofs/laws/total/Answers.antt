use Rattle.wasm_smith_witness.proofs.RefusalLaws.{only_memory}
use Rattle.wasm_smith_witness.proofs.laws.total.Goals as goal

pub returns : goal.returns
returns c = only_memory
