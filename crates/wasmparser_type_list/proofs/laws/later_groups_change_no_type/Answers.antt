use Rattle.wasmparser_type_list.proofs.LaterGroups.{settled}
use Rattle.wasmparser_type_list.proofs.laws.later_groups_change_no_type.Goals as goal

pub returns : goal.returns
returns c = settled
