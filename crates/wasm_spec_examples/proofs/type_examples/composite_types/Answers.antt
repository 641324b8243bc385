use Rattle.std.proofs.Common.{refl}
use Rattle.wasm_spec.specs.Types.{Abstract, Any, Array, Eq, Struct}
use Rattle.wasm_spec.specs.Subtyping.{same}
use Rattle.wasm_spec.proofs.Closures.{sound, complete}
use Rattle.wasm_spec_examples.proofs.type_examples.composite_types.Goals as goal

pub returns : goal.returns
returns c start = record {
  wider = λ sub_at. (record { same = refl; below = tt; back = λ e. tt }, tt);
  narrower = λ sub_at m. m.1;
  before = λ sub_at m. m.0.below;
  array = λ sub_at. record { same = refl; below = record { null = λ e. refl; heap = sound sub_at (Abstract Array) (Abstract Eq) refl }; back = λ e. absurd cc };
  params = λ sub_at. record { params = (record { null = λ e. refl; heap = sound sub_at (Abstract Struct) (Abstract Any) refl }, tt); results = tt };
  params_narrowed = λ sub_at m. let e = complete sub_at {a = Abstract Any} {b = Abstract Struct} m.params.0.heap in absurd cc;
  results = λ sub_at. record { params = tt; results = (record { null = λ e. refl; heap = sound sub_at (Abstract Struct) (Abstract Any) refl }, tt) };
  results_widened = λ sub_at m. let e = complete sub_at {a = Abstract Any} {b = Abstract Struct} m.results.0.heap in absurd cc;
  more_params = λ sub_at m. m.params.1;
  fewer_params = λ sub_at m. m.params.1;
  more_results = λ sub_at m. m.results.1;
  fewer_results = λ sub_at m. m.results.1;
  continuation = λ sub_at r. same;
  two_kinds = λ sub_at m. m;
}
