use Rattle.wasm_gen_sessions.proofs.BareModules.{no_length, no_limit, spaces_are}
use Rattle.wasm_gen_sessions.proofs.made_laws.bare_modules.Goals as goal

pub returns : goal.returns
returns c = record { limits = no_limit c.within.ensures; lengths = no_length; shown = spaces_are }
