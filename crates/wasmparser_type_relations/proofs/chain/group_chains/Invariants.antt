use Rattle.std.proofs.Common.{◌≡◌, ◌++◌, length, map, take}
use Rattle.wasmparser_types.specs.SubTypes.{sub_type}
use Rattle.wasmparser_type_relations.specs.Chains.{chains_after}
use Rattle.wasmparser_type_relations.proofs.chain.group_chains.Given as goal

abbrev pub invariant-loop-it : goal.invariant-loop-it
invariant-loop-it l = record {
  count : length l.added.items ≡ l.it-index;
  chains : l.earlier.items ++ l.added.items ≡ chains_after l.earlier.items (map sub_type (take l.it-index l.types));
}
