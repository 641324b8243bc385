use Rattle.std.proofs.Common.{refl}
use Rattle.wasm_spec_examples.proofs.RightBodies.{right, wrong}
use Rattle.wasm_spec_examples.proofs.operator_examples.tables_without_null.Goals as goal

pub returns : goal.returns
returns c = record {
  got = right refl;
  got_where_null = wrong refl;
  set = right refl;
  set_to_null = wrong refl;
  copied = right refl;
  copied_from_null = wrong refl;
  filled_from_segment = right refl;
  filled_from_segment_with_null = wrong refl;
}
