use Rattle.wasm_smith_types.proofs.SmallLaws.{small_groups}
use Rattle.wasm_smith_types.proofs.laws.small_groups.Goals as goal

pub returns : goal.returns
returns c = small_groups
