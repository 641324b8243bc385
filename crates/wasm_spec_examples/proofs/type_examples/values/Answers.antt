use Rattle.std.proofs.Common.{refl}
use Rattle.wasm_spec.specs.Types.{Abstract, Any, Struct}
use Rattle.wasm_spec.proofs.Closures.{sound, complete}
use Rattle.wasm_spec.proofs.TypeOrders.{number_alone, reference_alone}
use Rattle.wasm_spec_examples.proofs.type_examples.values.Goals as goal

pub returns : goal.returns
returns c start = record {
  null = λ sub_at. record { null = λ e. refl; heap = sound sub_at (Abstract Struct) (Abstract Any) refl };
  not_null = λ sub_at a b h. let e = h.null refl in absurd cc;
  upward = λ sub_at nullable h. let e = complete sub_at {a = Abstract Any} {b = Abstract Struct} h.heap in absurd cc;
  number = λ sub_at. tt;
  large_number = λ sub_at. tt;
  float = λ sub_at. tt;
  double = λ sub_at. tt;
  vector = λ sub_at. tt;
  numbers = number_alone;
  references = reference_alone;
}
