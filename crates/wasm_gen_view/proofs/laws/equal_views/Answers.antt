use Rattle.wasm_gen_view.proofs.EqualValues.{spaces_decide, views_equivalent}
use Rattle.wasm_gen_view.proofs.laws.equal_views.Goals as goal

pub returns-clause-decided : goal.returns-clause-decided
returns-clause-decided c = spaces_decide

pub returns-clause-equivalence : goal.returns-clause-equivalence
returns-clause-equivalence c = views_equivalent
