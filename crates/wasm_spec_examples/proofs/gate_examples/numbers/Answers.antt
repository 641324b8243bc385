use Rattle.std.proofs.Common.{refl}
use Rattle.wasm_spec.specs.Features.{Floats, Simd, has}
use Rattle.wasm_spec_examples.proofs.GateForms.{ends}
use Rattle.wasm_spec_examples.proofs.gate_examples.numbers.Goals as goal

pub returns : goal.returns
returns c = record {
  i32 = λ features. refl;
  i64 = λ features. refl;
  f32 = λ features. ends (has features Floats);
  f64 = λ features. ends (has features Floats);
  v128 = λ features. ends (has features Simd);
}
