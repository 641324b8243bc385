use Rattle.wasm_bodies_laws.proofs.Whole.{open_after_begun, begun_if_open}
use Rattle.wasm_bodies_laws.proofs.laws.begun.Goals as goal

pub returns : goal.returns
returns c start = λ cx type signature operators labels s named gives.
    (open_after_begun cx type signature named gives operators labels s, begun_if_open cx type signature named gives operators labels s)
