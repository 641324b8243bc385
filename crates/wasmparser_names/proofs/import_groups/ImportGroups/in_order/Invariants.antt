use Rattle.std.proofs.Common.{◌≡◌, ◌++◌, length, map}
use Rattle.wasmparser_names.specs.ImportNames.{named_import}
use Rattle.wasmparser_names.proofs.import_groups.ImportGroups.in_order.Given as goal

abbrev pub invariant-left : goal.invariant-left
invariant-left l = map named_import l.imports.items ++ l.left ≡ l.self.imports

abbrev pub decreases-left : goal.decreases-left
decreases-left l = length l.left
