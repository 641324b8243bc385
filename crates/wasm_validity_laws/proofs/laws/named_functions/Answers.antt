use Rattle.wasm_validity_laws.proofs.Named.{functions_named}
use Rattle.wasm_validity_laws.proofs.laws.named_functions.Goals as goal

pub returns : goal.returns
returns c = functions_named
