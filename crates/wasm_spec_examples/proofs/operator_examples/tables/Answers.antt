use Rattle.std.proofs.Common.{refl}
use Rattle.wasm_spec_examples.proofs.RightBodies.{right, wrong}
use Rattle.wasm_spec_examples.proofs.operator_examples.tables.Goals as goal

pub returns : goal.returns
returns c = record {
  got = (right refl, wrong refl);
  long_got = right refl;
  got_by_another = wrong refl;
  set = right refl;
  set_to_another = wrong refl;
  long_set = right refl;
  set_by_another = wrong refl;
  size = (right refl, wrong refl);
  grown = right refl;
  grown_with_another = wrong refl;
  filled = right refl;
  filled_with_another = wrong refl;
  copied = (right refl, wrong refl);
  copied_from_long = right refl;
  copied_to_long = right refl;
  copied_to_long_by_another = wrong refl;
  copied_in_long = right refl;
  copied_to_wider = right refl;
  copied_to_narrower = wrong refl;
  copied_to_another = wrong refl;
  filled_from_segment = (right refl, wrong refl);
  long_filled_from_segment = right refl;
  filled_from_another_segment = wrong refl;
  filled_from_narrower_segment = right refl;
  filled_from_wider_segment = wrong refl;
  filled_from_no_segment = wrong refl;
  dropped = (right refl, wrong refl);
  dropped_none = wrong refl;
}
