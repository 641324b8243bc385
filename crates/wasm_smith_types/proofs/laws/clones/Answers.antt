use Rattle.wasm_smith_types.proofs.CloneLaws.{clone_of_valid}
use Rattle.wasm_smith_types.proofs.laws.clones.Goals as goal

pub returns : goal.returns
returns c = clone_of_valid
