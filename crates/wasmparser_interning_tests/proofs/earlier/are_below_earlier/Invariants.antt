use Rattle.wasmparser_interning_tests.specs.Earlier.{AreBelowEarlierTo}
use Rattle.wasmparser_interning_tests.proofs.earlier.are_below_earlier.Given as goal

abbrev pub invariant-loop-index : goal.invariant-loop-index
invariant-loop-index l = AreBelowEarlierTo l.list l.index
