use Rattle.wasm_gen_view.proofs.TwoRoads.{one_view_of_both}
use Rattle.wasm_gen_view.proofs.laws.two_roads.Goals as goal

pub returns : goal.returns
returns c = one_view_of_both
