use Rattle.std.proofs.Common.{◌≡◌, ◌++◌, map, take}
use Rattle.wasmparser_type_relations.specs.GroupKeys.{val_number}
use Rattle.wasmparser_types.specs.ValTypes.{val_type}
use Rattle.wasmparser_type_relations.proofs.group_key.put_val_types.Given as goal

abbrev pub invariant-loop-it : goal.invariant-loop-it
invariant-loop-it l = l.key.items ≡ l.fn.key.items ++ map val_number (map val_type (take l.it-index l.types))
