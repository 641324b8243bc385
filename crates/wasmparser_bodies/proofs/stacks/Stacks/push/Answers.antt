use Rattle.std.proofs.Common.{reverse}
use Rattle.wasmparser_bodies.proofs.Stacked.{pushed}
use Rattle.wasmparser_bodies.proofs.stacks.Stacks.push.Goals as goal

pub returns-in_ok-push-in-Known-clause-ok : goal.returns-in_ok-push-in-Known-clause-ok
returns-in_ok-push-in-Known-clause-ok c =
    let i = c.self.inside in
    rw (← c.self.view_is) (pushed (reverse i.frames.items) i.operands.items c.push.new.self.items c.args.x i.assigned.items c.self.invariant.heights (rw c.in-Known.is c.in_ok-push-in-Known.ensures.items))

pub returns-in_ok-push-in-Unknown-clause-ok : goal.returns-in_ok-push-in-Unknown-clause-ok
returns-in_ok-push-in-Unknown-clause-ok c =
    let i = c.self.inside in
    rw (← c.self.view_is) (pushed (reverse i.frames.items) i.operands.items c.push-in-Unknown.new.self.items c.args.x i.assigned.items c.self.invariant.heights (rw c.in-Unknown.is c.in_ok-push-in-Unknown.ensures.items))

pub returns-in_ok-push-in-UnknownRef-clause-ok : goal.returns-in_ok-push-in-UnknownRef-clause-ok
returns-in_ok-push-in-UnknownRef-clause-ok c =
    let i = c.self.inside in
    rw (← c.self.view_is) (pushed (reverse i.frames.items) i.operands.items c.push-in-UnknownRef.new.self.items c.args.x i.assigned.items c.self.invariant.heights (rw c.in-UnknownRef.is c.in_ok-push-in-UnknownRef.ensures.items))
