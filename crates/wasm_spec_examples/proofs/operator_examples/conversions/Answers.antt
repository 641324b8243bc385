use Rattle.std.proofs.Common.{refl}
use Rattle.wasm_spec_examples.proofs.RightBodies.{right}
use Rattle.wasm_spec_examples.proofs.operator_examples.conversions.Goals as goal

pub returns : goal.returns
returns c = record {
  wrapped = right refl;
  to_small = right refl;
  from_small = right refl;
  to_large = right refl;
  to_float = right refl;
  demoted = right refl;
  to_double = right refl;
  promoted = right refl;
  same_bits = right refl;
  extended = right refl;
  saturated = right refl;
  large_saturated = right refl;
}
