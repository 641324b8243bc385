use Rattle.std.proofs.Common.{◌≡◌, refl}
use Rattle.wasm_smith_unstructured.specs.Draws.{int_at, ratio_at}
use Rattle.wasm_smith_unstructured.proofs.unstructured.Unstructured.ratio.Goals as goal

pub returns-clause-exact : goal.returns-clause-exact
unfolding ratio_at
returns-clause-exact c =
    let start = c.new.ensures.start in
    let end = c.new.ensures.end in
    let drawn : int_at 1 c.args.denominator c.args.self.now ≡ (c.int_in_range.result, c.int_in_range.new.self) = rw (start, end) at c.int_in_range.ensures.exact in
    rw drawn refl
