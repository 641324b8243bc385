use Rattle.std.proofs.Common.{refl}
use Rattle.wasm_spec_examples.proofs.RightBodies.{right, wrong}
use Rattle.wasm_spec_examples.proofs.operand_examples.assignments.Goals as goal

pub returns : goal.returns
returns c = record {
  set = right refl;
  set_to_null = wrong refl;
  kept = right refl;
  set_another = wrong refl;
  set_both = right refl;
  seen_in_block = right refl;
  past_block = wrong refl;
  past_loop = wrong refl;
  before_and_past_block = right refl;
  in_other_list = wrong refl;
  in_both_lists = wrong refl;
  before_both_lists = right refl;
  unreached = right refl;
  unreached_without = wrong refl;
  kept_past_jump = right refl;
}
