use Rattle.std.specs.List.{IsDistinct}
use Rattle.wasmparser_names.proofs.import_names.ImportNames.new.Goals as goal

pub invariant_of-result : goal.invariant_of-result
unfolding IsDistinct
invariant_of-result c = rw (c.new-2.ensures.names, c.new-3.ensures.items) (tt, tt)
