use Rattle.wasmparser_interning_rows.proofs.SameGroups.{names}
use Rattle.wasmparser_interning_rows.proofs.module_group.module_group.Goals as goal

pub returns-in-Ok : goal.returns-in-Ok
returns-in-Ok c = names _ _ c.in-Ok.ensures.remapped c.in-Ok.ensures.accepted
