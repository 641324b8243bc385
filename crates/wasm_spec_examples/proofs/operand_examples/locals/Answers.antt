use Rattle.std.proofs.Common.{refl}
use Rattle.wasm_spec_examples.proofs.RightBodies.{right, wrong}
use Rattle.wasm_spec_examples.proofs.operand_examples.locals.Goals as goal

pub returns : goal.returns
returns c = record {
  parameter = right refl;
  parameter_without_default = right refl;
  number = right refl;
  null_reference = right refl;
  without_default = wrong refl;
  after_parameters = right refl;
  past_the_last = wrong refl;
  set = right refl;
  set_to_another = wrong refl;
  set_past_the_last = wrong refl;
  set_and_kept = right refl;
  kept_as_another = wrong refl;
  kept_of_its_type = wrong refl;
}
