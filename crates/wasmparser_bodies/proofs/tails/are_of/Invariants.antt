use Rattle.wasmparser_bodies.proofs.TailLaws.{AreOf}
use Rattle.wasmparser_bodies.proofs.tails.are_of.Given as goal

abbrev pub invariant-loop-index : goal.invariant-loop-index
invariant-loop-index l = AreOf l.operands l.types l.index
