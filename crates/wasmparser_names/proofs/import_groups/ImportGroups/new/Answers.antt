use Rattle.std.proofs.Common.{◌∙◌}
use Rattle.wasmparser_names.proofs.import_groups.ImportGroups.new.Goals as goal

pub invariant_of-result : goal.invariant_of-result
invariant_of-result c = rw c.with_hasher.ensures.empty (c.requires, tt, c.with_hasher.ensures.hasher ∙ c.hasher.ensures)
