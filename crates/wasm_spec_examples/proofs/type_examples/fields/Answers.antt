use Rattle.std.proofs.Common.{refl}
use Rattle.wasm_spec.specs.Types.{Abstract, Any, Struct}
use Rattle.wasm_spec.specs.Subtyping.{same}
use Rattle.wasm_spec.proofs.Closures.{sound, complete}
use Rattle.wasm_spec.proofs.TypeOrders.{packed_8, packed_16, not_packed}
use Rattle.wasm_spec_examples.proofs.type_examples.fields.Goals as goal

pub returns : goal.returns
returns c start = record {
  const_narrowed = λ sub_at. record { same = refl; below = record { null = λ e. refl; heap = sound sub_at (Abstract Struct) (Abstract Any) refl }; back = λ e. absurd cc };
  const_widened = λ sub_at m. let e = complete sub_at {a = Abstract Any} {b = Abstract Struct} m.below.heap in absurd cc;
  var_same = λ sub_at. record { same = refl; below = record { null = λ e. refl; heap = same }; back = λ e. record { null = λ e. refl; heap = same } };
  var_narrowed = λ sub_at m. let e = complete sub_at {a = Abstract Any} {b = Abstract Struct} (m.back refl).heap in absurd cc;
  var_widened = λ sub_at m. let e = complete sub_at {a = Abstract Any} {b = Abstract Struct} m.below.heap in absurd cc;
  const_var = λ sub_at m. let e = m.same in absurd cc;
  var_const = λ sub_at m. let e = m.same in absurd cc;
  packed = λ sub_at mutable. record { same = refl; below = tt; back = λ e. tt };
  wide_packed = λ sub_at mutable. record { same = refl; below = tt; back = λ e. tt };
  packed_mixed = λ sub_at mutable m. m.below;
  i8 = packed_8;
  i16 = packed_16;
  value = not_packed;
}
