use Rattle.std.proofs.Common.{refl}
use Rattle.wasm_spec_examples.proofs.RightBodies.{right, wrong}
use Rattle.wasm_spec_examples.proofs.block_examples.jumps_by_table.Goals as goal

pub returns : goal.returns
returns c = record {
  one = right refl;
  several = right refl;
  large_index = wrong refl;
  two_arities = wrong refl;
  other_type = wrong refl;
  default_of_another = wrong refl;
  default_alone_of_another = wrong refl;
  two_arities_unknown = wrong refl;
  other_types_unknown = right refl;
  below_both = right refl;
  below_one = wrong refl;
  to_nothing = wrong refl;
  else_to_nothing = wrong refl;
}
