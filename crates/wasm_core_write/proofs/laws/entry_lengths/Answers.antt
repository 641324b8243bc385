use Rattle.wasm_core_write.proofs.RecGroupLaws.{parts}
use Rattle.wasm_core_write.proofs.laws.entry_lengths.Goals as goal

pub returns : goal.returns
returns c = parts
