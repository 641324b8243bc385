use Rattle.wasmparser_bodies.proofs.TailLaws.{Written}
use Rattle.wasmparser_bodies.proofs.tails.write_types.Given as goal

abbrev pub invariant-loop-index : goal.invariant-loop-index
invariant-loop-index l = Written l.operands.items l.fn.operands.items l.at l.types l.index
