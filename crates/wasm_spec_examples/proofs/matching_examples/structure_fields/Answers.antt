use Rattle.std.proofs.Common.{refl}
use Rattle.wasm_spec_examples.proofs.FieldLaws.{const_narrowed, const_widened, var_narrowed, var_widened}
use Rattle.wasm_spec_examples.proofs.matching_examples.structure_fields.Goals as goal

pub returns : goal.returns
returns c start = record {
  first_narrowed = λ sub_at. (const_narrowed sub_at, (record { same = refl; below = tt; back = λ e. tt }, tt));
  first_widened = λ sub_at m. const_widened sub_at m.0;
  second_narrowed = λ sub_at. (record { same = refl; below = tt; back = λ e. tt }, (const_narrowed sub_at, tt));
  second_widened = λ sub_at m. const_widened sub_at m.1.0;
  second_differs = λ sub_at m. m.1.0.below;
  narrowed_and_wider = λ sub_at. (const_narrowed sub_at, tt);
  widened_and_wider = λ sub_at m. const_widened sub_at m.0;
  var_narrowed = λ sub_at m. var_narrowed sub_at m.0;
  var_widened = λ sub_at m. var_widened sub_at m.0;
  const_var = λ sub_at m. let e = m.0.same in absurd cc;
  var_const = λ sub_at m. let e = m.0.same in absurd cc;
  const_var_narrowed = λ sub_at m. let e = m.0.same in absurd cc;
  var_const_narrowed = λ sub_at m. let e = m.0.same in absurd cc;
  second_const_var = λ sub_at m. let e = m.1.0.same in absurd cc;
}
