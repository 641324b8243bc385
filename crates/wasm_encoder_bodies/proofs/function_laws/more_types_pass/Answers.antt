use Rattle.wasm_encoder_bodies.proofs.ShorterRuns.{more_pass}
use Rattle.wasm_encoder_bodies.proofs.function_laws.more_types_pass.Goals as goal

pub returns : goal.returns
returns c = more_pass
