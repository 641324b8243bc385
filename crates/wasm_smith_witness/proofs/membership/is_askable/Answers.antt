use Rattle.wasm_smith_witness.specs.Family.{IsAskable}
use Rattle.wasm_smith_witness.proofs.MemberLaws.{not_good}
use Rattle.wasm_smith_witness.proofs.membership.is_askable.Goals as goal

pub returns-in-Err : goal.returns-in-Err
returns-in-Err c = (λ h. absurd cc, λ (asked : IsAskable c.args.config.now). absurd (not_good c.args.config.now _ c.in-Err.ensures.bad asked.good))
