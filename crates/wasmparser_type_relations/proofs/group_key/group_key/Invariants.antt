use Rattle.std.proofs.Common.{◌≡◌, map, take}
use Rattle.std.specs.List.{flat_map}
use Rattle.wasmparser_type_relations.specs.GroupKeys.{sub_key}
use Rattle.wasmparser_types.specs.SubTypes.{sub_type}
use Rattle.wasmparser_type_relations.proofs.group_key.group_key.Given as goal

abbrev pub invariant-loop-it : goal.invariant-loop-it
invariant-loop-it l = l.key.items ≡ flat_map sub_key (map sub_type (take l.it-index l.types))
