use Rattle.wasm_validity_laws.proofs.NamedTypes.{types_named}
use Rattle.wasm_validity_laws.proofs.laws.named_types.Goals as goal

pub returns : goal.returns
returns c = types_named
