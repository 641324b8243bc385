use Rattle.std.proofs.Common.{refl}
use Rattle.wasm_spec.specs.Subtyping.{same}
use Rattle.wasm_spec_examples.proofs.FieldLaws.{const_narrowed, const_widened, var_narrowed, var_widened}
use Rattle.wasm_spec_examples.proofs.matching_examples.array_elements.Goals as goal

pub returns : goal.returns
returns c start = record {
  const_narrowed = const_narrowed;
  const_widened = const_widened;
  var_same = λ sub_at. record { same = refl; below = record { null = λ e. refl; heap = same }; back = λ e. record { null = λ e. refl; heap = same } };
  var_narrowed = var_narrowed;
  var_widened = var_widened;
  const_var = λ sub_at m. let e = m.same in absurd cc;
  var_const = λ sub_at m. let e = m.same in absurd cc;
  const_var_narrowed = λ sub_at m. let e = m.same in absurd cc;
  var_const_narrowed = λ sub_at m. let e = m.same in absurd cc;
}
