use Rattle.wasm_smith_types.proofs.PermittedLaws.{composite_permitted}
use Rattle.wasm_smith_types.proofs.laws.permitted_draws.Goals as goal

pub returns : goal.returns
returns c = λ features o bound s suits. composite_permitted features o suits bound s
