use Rattle.std.proofs.Common.{◌≡◌, ℕ, length, refl, ap}
use Rattle.wasm_spec.specs.Trees.{GroupTree, Rolled}
use Rattle.wasm_spec_examples.proofs.type_examples.lone_types.Goals as goal

abbrev size_of : GroupTree → ℕ
size_of (Rolled shapes rs) = length shapes

pub returns : goal.returns
returns c = record {
  alone = refl;
  member = λ e. let n : 1 ≡ 2 = ap (λ d. size_of d.tree) e in absurd cc;
}
