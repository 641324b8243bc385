use Rattle.std.proofs.Common.{◌≡◌, ◌++◌, map, take}
use Rattle.wasmparser_type_relations.specs.GroupKeys.{field_number}
use Rattle.wasmparser_types.specs.ValTypes.{field_type}
use Rattle.wasmparser_type_relations.proofs.group_key.put_fields.Given as goal

abbrev pub invariant-loop-it : goal.invariant-loop-it
invariant-loop-it l = l.key.items ≡ l.fn.key.items ++ map field_number (map field_type (take l.it-index l.fields))
