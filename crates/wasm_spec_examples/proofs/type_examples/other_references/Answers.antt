use Rattle.std.proofs.Common.{refl}
use Rattle.wasm_spec.specs.Types.{Abstract, Any, Exn, Extern, NoExn, NoExtern}
use Rattle.wasm_spec.proofs.Closures.{sound, complete}
use Rattle.wasm_spec_examples.proofs.type_examples.other_references.Goals as goal

pub returns : goal.returns
returns c start = record {
  noextern = λ sub_at. sound sub_at (Abstract NoExtern) (Abstract Extern) refl;
  noexn = λ sub_at. sound sub_at (Abstract NoExn) (Abstract Exn) refl;
  extern_any = λ sub_at h. let e = complete sub_at {a = Abstract Extern} {b = Abstract Any} h in absurd cc;
  exn_any = λ sub_at h. let e = complete sub_at {a = Abstract Exn} {b = Abstract Any} h in absurd cc;
}
