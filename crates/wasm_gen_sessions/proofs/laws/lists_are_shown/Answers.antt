use Rattle.wasm_gen_sessions.proofs.ListsLaws.{all_shown}
use Rattle.wasm_gen_sessions.proofs.laws.lists_are_shown.Goals as goal

pub returns : goal.returns
returns c = all_shown c.bare_modules.ensures.shown
