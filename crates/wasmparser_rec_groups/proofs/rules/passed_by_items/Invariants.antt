use Rattle.std.proofs.Common.{map, take}
use Rattle.wasmparser_types.specs.SubTypes.{sub_type}
use Rattle.wasmparser_rec_groups.specs.ItemLimits.{HaveFewItems}
use Rattle.wasmparser_rec_groups.proofs.rules.passed_by_items.Given as goal

abbrev pub invariant-loop-it : goal.invariant-loop-it
invariant-loop-it l = HaveFewItems (map sub_type (take l.it-index l.types))
