use Rattle.wasm_gen_program.proofs.CheckInputsLaws.{told_after}
use Rattle.wasm_gen_program.proofs.check_inputs.check_named.Goals as goal

pub returns : goal.returns
returns g c = record {
  found = _;
  checked = _;
  ended = c.check_opened-answer.ensures;
  same = c.tell_of.ensures.same;
  events = told_after _ _ _ _ _ c.open-input.ensures c.tell_of.ensures.told;
}
