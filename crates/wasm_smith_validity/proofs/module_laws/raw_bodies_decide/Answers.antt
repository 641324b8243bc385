use Rattle.wasm_smith_validity.proofs.ValidModules.{valid_where_typed, valid_without_raw}
use Rattle.wasm_smith_validity.proofs.module_laws.raw_bodies_decide.Goals as goal

pub returns : goal.returns
returns c = record { exactly = valid_where_typed; without = valid_without_raw }
