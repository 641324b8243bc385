use Rattle.wasm_smith_module.proofs.CodeLaws.{raw_left, raw_taken}
use Rattle.wasm_smith_module.proofs.code.instructions.Goals as goal

pub returns-then-bool_if-clause-drawn : goal.returns-then-bool_if-clause-drawn
returns-then-bool_if-clause-drawn c =
    raw_taken c.args.allow_raw c.args.unstructured.now c.bool_if.new.unstructured c.contents.new.unstructured c.in_ok-raw.raw.items (rw c.if-bool_if.true at c.bool_if.ensures.exact) c.in_ok-raw.ensures.drawn

pub returns-clause-drawn : goal.returns-clause-drawn
returns-clause-drawn c = raw_left c.args.allow_raw c.args.unstructured.now c.bool_if.new.unstructured (rw c.if-bool_if.false at c.bool_if.ensures.exact)
