use Rattle.std.proofs.Common.{◌≡◌, ◌-◌, length, arith}
use Rattle.wasm_smith_unstructured.specs.Draws.{int_at}
use Rattle.wasm_smith_unstructured.proofs.ChooseLaws.{choose_none, choose_some}
use Rattle.wasm_smith_unstructured.proofs.unstructured.Unstructured.choose.Goals as goal

pub returns-then-count-eq0-clause-exact : goal.returns-then-count-eq0-clause-exact
returns-then-count-eq0-clause-exact g c = choose_none _ _ (omega arith)

pub returns-clause-exact : goal.returns-clause-exact
returns-clause-exact g c =
    let start = c.new.ensures.start in
    let end = c.new.ensures.end in
    let drawn : int_at 0 (length c.args.things.now - 1) c.args.self.now ≡ (c.int_in_range-index.result, c.int_in_range-index.new.self) = rw (start, end) at c.int_in_range-index.ensures.exact in
    choose_some _ _ _ _ _ drawn (omega arith) c.index-things-index.is
