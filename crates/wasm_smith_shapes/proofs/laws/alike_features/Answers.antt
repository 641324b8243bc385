use Rattle.wasm_smith_shapes.proofs.AlikeShapes.{bad_alike, good_alike}
use Rattle.wasm_smith_shapes.proofs.laws.alike_features.Goals as goal

pub returns-clause-good : goal.returns-clause-good
returns-clause-good c = good_alike

pub returns-clause-bad : goal.returns-clause-bad
returns-clause-bad c = bad_alike
