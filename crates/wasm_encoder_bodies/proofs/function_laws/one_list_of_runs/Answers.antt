use Rattle.wasm_encoder_bodies.proofs.TypeRuns.{only}
use Rattle.wasm_encoder_bodies.proofs.function_laws.one_list_of_runs.Goals as goal

pub returns : goal.returns
returns c = only
