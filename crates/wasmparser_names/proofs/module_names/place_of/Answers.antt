use Rattle.std.proofs.Common.{arith}
use Rattle.wasmparser_names.proofs.ModuleNames.{none_in}
use Rattle.wasmparser_names.proofs.module_names.place_of.Goals as goal

pub returns-clause-none : goal.returns-clause-none
returns-clause-none c none = none_in c.args.names.now c.args.name.now c.loop-place.place (omega (arith, c.loop-place-test.false, c.loop-place.auto.place-end)) c.loop-place.invariant.none
