use Rattle.wasm_bodies_laws.proofs.WantedChoices.{agree_under, function_under, wanted_under}
use Rattle.wasm_bodies_laws.proofs.reference_laws.types_under.Goals as goal

pub returns : goal.returns
returns c start = record { agreement = agree_under; wanted = wanted_under; functions = function_under }
