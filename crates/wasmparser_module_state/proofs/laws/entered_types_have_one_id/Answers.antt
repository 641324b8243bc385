use Rattle.wasmparser_module_state.proofs.HeldTypes.{still_distinct}
use Rattle.wasmparser_module_state.proofs.laws.entered_types_have_one_id.Goals as goal

pub returns : goal.returns
returns c features cx old new entries needs = still_distinct features needs cx old new entries
