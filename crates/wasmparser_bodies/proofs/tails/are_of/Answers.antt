use Rattle.wasmparser_bodies.proofs.TailLaws.{are_of_not}
use Rattle.wasmparser_bodies.proofs.tails.are_of.Goals as goal

pub returns-then-not-is_of : goal.returns-then-not-is_of
returns-then-not-is_of c =
    (λ h. absurd (cc (h)), λ e. rw c.if-not-is_of.true at (c.is_of.ensures.1 (are_of_not c.args.operands.now c.args.types.now c.loop-index.index c.index-operands-index.result c.index-types-index.result c.requires c.loop-index-test.true c.index-operands-index.is c.index-types-index.is e)))
