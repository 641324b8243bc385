use Rattle.wasm_smith_witness.proofs.ReachLaws.{whole_reach, groups_on, funcs_stay}
use Rattle.wasm_smith_witness.proofs.MemberLaws.{nothing_else}
use Rattle.wasm_smith_witness.proofs.laws.reach.Goals as goal

pub returns : goal.returns
returns c = record { exact = whole_reach; alone = nothing_else; groups_go_on = groups_on; funcs_go_on = funcs_stay }
