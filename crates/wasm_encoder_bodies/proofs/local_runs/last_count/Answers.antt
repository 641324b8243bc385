use Rattle.std.proofs.Common.{rules}
use Rattle.wasm_encoder_bodies.proofs.LastRuns.{is_other}
use Rattle.wasm_encoder_bodies.proofs.local_runs.last_count.Goals as goal

pub returns-in_default-clause-other : goal.returns-in_default-clause-other
returns-in_default-clause-other c none = is_other c.args.runs.now c.in-Some.run'.now c.args.ty.now (search rules) (search rules) (λ same. search rules)
