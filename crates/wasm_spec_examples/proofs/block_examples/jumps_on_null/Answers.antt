use Rattle.std.proofs.Common.{refl}
use Rattle.wasm_spec_examples.proofs.RightBodies.{right, wrong}
use Rattle.wasm_spec_examples.proofs.block_examples.jumps_on_null.Goals as goal

pub returns : goal.returns
returns c = record {
  on_null = (right refl, wrong refl);
  without_a_test = wrong refl;
  with_others = right refl;
  with_another = wrong refl;
  of_a_number = wrong refl;
  to_nothing = wrong refl;
  on_non_null = (right refl, wrong refl);
  to_nullable = right refl;
  on_non_null_with_others = right refl;
  on_non_null_out_of_order = wrong refl;
  nothing_is_left = wrong refl;
  to_another_kind = wrong refl;
  to_a_number = wrong refl;
  types_of_label_on_null = right refl;
  no_sharper_on_null = wrong refl;
  types_of_label_on_non_null = right refl;
  no_sharper_on_non_null = wrong refl;
  sharper_without_a_jump = right refl;
  to_no_operands = wrong refl;
}
