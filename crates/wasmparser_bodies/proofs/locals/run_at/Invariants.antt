use Rattle.std.proofs.Common.{◌-◌}
use Rattle.wasmparser_bodies.proofs.LocalLaws.{Narrowed}
use Rattle.wasmparser_bodies.proofs.locals.run_at.Given as goal

abbrev pub invariant-loop-low : goal.invariant-loop-low
invariant-loop-low l = Narrowed l.runs l.index l.low l.high

abbrev pub decreases-loop-low : goal.decreases-loop-low
decreases-loop-low l = l.high - l.low
