use Rattle.std.proofs.Common.{◌≡◌, Some, sym, ◌∙◌}
use Rattle.wasm_bodies.proofs.Judging.{complete}
use Rattle.wasm_bodies.proofs.laws.one_state.Goals as goal

pub returns : goal.returns
returns c = record { one = λ cx labels s code a b j k. let e : Some a ≡ Some b = sym (complete cx labels s code a j) ∙ complete cx labels s code b k in cc }
