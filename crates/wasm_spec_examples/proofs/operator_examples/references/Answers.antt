use Rattle.std.proofs.Common.{refl}
use Rattle.wasm_spec_examples.proofs.RightBodies.{right, wrong}
use Rattle.wasm_spec_examples.proofs.operator_examples.references.Goals as goal

pub returns : goal.returns
returns c = record {
  null_function = (right refl, wrong refl);
  null_as_none = wrong refl;
  null_written = wrong refl;
  null_of_a_type = right refl;
  null_of_no_type = wrong refl;
  null_any = (right refl, wrong refl);
  null_continuation = wrong refl;
  tested = (right refl, wrong refl);
  tested_null = right refl;
  tested_number = wrong refl;
  declared = (right refl, wrong refl);
  undeclared = wrong refl;
  equal = (right refl, wrong refl);
  equal_structures = right refl;
  equal_functions = wrong refl;
  not_null = (right refl, wrong refl);
  null_made_none = right refl;
  number_made_none = wrong refl;
}
