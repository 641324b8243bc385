use Rattle.wasmparser_bodies.proofs.LocalLaws.{AreKept}
use Rattle.wasmparser_bodies.proofs.locals.keep_parameters.Given as goal

abbrev pub invariant-loop-index : goal.invariant-loop-index
invariant-loop-index l = AreKept l.first.items l.params l.index
