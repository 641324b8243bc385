use Rattle.wasm_spec.specs.Types.{Abstract}
use Rattle.wasm_spec.proofs.Closures.{sound, complete}
use Rattle.wasm_spec.proofs.subtyping_laws.heap_types.Goals as goal

pub returns : goal.returns
returns c start = record {
  test = λ sub_at a b. (λ h. complete sub_at h, λ h. sound sub_at a b h);
  table = λ sub_at a b. (λ h. complete sub_at {a = Abstract a} {b = Abstract b} h, λ h. sound sub_at (Abstract a) (Abstract b) h);
}
