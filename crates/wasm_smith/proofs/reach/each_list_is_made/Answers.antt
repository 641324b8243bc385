use Rattle.std.proofs.Common.{refl}
use Rattle.wasm_smith_witness.proofs.MemberLaws.{nothing_else}
use Rattle.wasm_smith_witness.proofs.ReachLaws.{whole_reach}
use Rattle.wasm_smith_witness.proofs.WitnessLaws.{member_spelled}
use Rattle.wasm_smith.proofs.reach.each_list_is_made.Goals as goal

pub returns : goal.returns
returns c config groups funcs asked member =
    let spelled = member_spelled config groups funcs asked member in
    (spelled.0, whole_reach config groups funcs spelled.0 asked spelled.1, λ m left has. has.alone refl (nothing_else config asked))
