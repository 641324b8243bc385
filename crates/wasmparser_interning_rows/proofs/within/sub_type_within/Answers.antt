use Rattle.wasmparser_interning_rows.proofs.Allowed.{lone}
use Rattle.wasmparser_interning_rows.proofs.within.sub_type_within.Goals as goal

pub returns-in-Ok : goal.returns-in-Ok
returns-in-Ok c = lone c.args.before _ _ c.in-Ok.ensures.remapped c.in-Ok.ensures.accepted
