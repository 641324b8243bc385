use Rattle.wasm_gen_sessions.proofs.AcceptedLaws.{memory_alone, no_raw_typed, resources_alone, typed_where_accepted}
use Rattle.wasm_gen_sessions.proofs.laws.generated_is_accepted.Goals as goal

pub returns : goal.returns
returns c = record { any = resources_alone; first = memory_alone; only = typed_where_accepted; no_raw = no_raw_typed }
