use Rattle.std.proofs.Common.{reverse}
use Rattle.wasmparser_bodies.proofs.Stacked.{pushed}
use Rattle.wasmparser_bodies.proofs.stacks.Stacks.push_known.Goals as goal

pub returns-clause-ok : goal.returns-clause-ok
returns-clause-ok c =
    let i = c.self.inside in
    rw (← c.self.view_is) (pushed (reverse i.frames.items) i.operands.items c.push.new.self.items _ i.assigned.items c.self.invariant.heights c.in_ok-push.ensures.items)
