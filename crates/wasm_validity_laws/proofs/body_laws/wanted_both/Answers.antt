use Rattle.wasm_validity_laws.proofs.WantedBoth.{both_functions, both_wanted}
use Rattle.wasm_validity_laws.proofs.body_laws.wanted_both.Goals as goal

pub returns : goal.returns
returns c start = record { items = both_wanted; functions = both_functions }
