use Rattle.wasm_validity_laws.proofs.Spaces.{own_are_functions, sizes_are}
use Rattle.wasm_validity_laws.proofs.laws.known_spaces.Goals as goal

pub returns : goal.returns
returns c = record { own_functions = own_are_functions; sizes = sizes_are }
