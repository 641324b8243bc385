use Rattle.std.proofs.Common.{ap, arith, length}
use Rattle.wasmparser_interning_tests.proofs.EarlierLaws.{one_more, all_types}
use Rattle.wasmparser_interning_tests.proofs.earlier.are_below_earlier.Goals as goal

pub loop-index-preserved : goal.loop-index-preserved
loop-index-preserved c = one_more c.args.list.now c.loop-index.index c.loop-index.invariant (c.is_known_below_earlier.ensures c.if-not-is_known_below_earlier.false)

pub returns : goal.returns
returns c _ = all_types c.args.list.now c.loop-index.index (omega (arith, c.loop-index-test.false, c.len-index-end.ensures, ap length c.list.ensures)) c.loop-index.invariant
