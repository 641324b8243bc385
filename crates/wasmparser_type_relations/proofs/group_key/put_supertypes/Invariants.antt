use Rattle.std.proofs.Common.{◌≡◌, ◌++◌, map, take}
use Rattle.wasmparser_type_relations.specs.GroupKeys.{index_number}
use Rattle.wasmparser_type_relations.proofs.group_key.put_supertypes.Given as goal

abbrev pub invariant-loop-it : goal.invariant-loop-it
invariant-loop-it l = l.key.items ≡ l.fn.key.items ++ map index_number (take l.it-index l.supertypes)
