use Rattle.wasm_core_write.proofs.RecGroupLaws.{same}
use Rattle.wasm_core_write.proofs.laws.same_entries.Goals as goal

pub returns : goal.returns
returns c = same
