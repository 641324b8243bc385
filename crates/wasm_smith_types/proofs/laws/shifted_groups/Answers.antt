use Rattle.wasm_smith_types.proofs.ShiftLaws.{shifted_valid}
use Rattle.wasm_smith_types.proofs.laws.shifted_groups.Goals as goal

pub returns : goal.returns
returns c = shifted_valid
