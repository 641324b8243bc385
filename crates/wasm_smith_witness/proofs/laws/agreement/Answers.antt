use Rattle.wasm_smith_witness.proofs.AgreementLaws.{spelled_member}
use Rattle.wasm_smith_witness.proofs.WitnessLaws.{member_spelled}
use Rattle.wasm_smith_witness.proofs.laws.agreement.Goals as goal

pub returns : goal.returns
returns c = record { member = spelled_member; spelled = member_spelled }
