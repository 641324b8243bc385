use Rattle.wasm_bodies.proofs.OtherCodes.{no_other}
use Rattle.wasm_bodies.proofs.laws.other_codes.Goals as goal

pub returns : goal.returns
returns c = record { none = λ features other rest operator. no_other features other rest operator }
