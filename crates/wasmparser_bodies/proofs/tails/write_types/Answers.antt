use Rattle.wasmparser_bodies.proofs.TailLaws.{written_more}
use Rattle.wasmparser_bodies.proofs.tails.write_types.Goals as goal

pub loop-index-preserved : goal.loop-index-preserved
loop-index-preserved c = written_more c.loop-index.operands.items c.args.operands.now.items c.args.at c.args.types.now c.loop-index.index c.index-types-index.result c.requires c.loop-index-test.true c.index-types-index.is c.loop-index.invariant
