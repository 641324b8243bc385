use Rattle.wasm_bodies_laws.proofs.Whole.{closed_by_body, body_if_closed}
use Rattle.wasm_bodies_laws.proofs.laws.whole.Goals as goal

pub returns : goal.returns
returns c start = λ cx type signature operators named gives. (closed_by_body cx type signature named gives operators, body_if_closed cx type signature named gives operators)
