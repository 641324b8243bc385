-- Lists of entries, and their encodings.
use Rattle.std.proofs.Common.{◌≡◌, List, map}
use Rattle.wasm_spec.specs.Shortest.{list_encoding}
use Rattle.wasm_core_write.specs.CoreRecGroups.{rec_group, core_group_encoding}
use Rattle.wasm_spec.specs.TypeEncodings.{rec_group_encoding}
use Rattle.wasm_core_write.specs.declared.rec_group.RecGroup.{RecGroup}
use Rattle.wasm_core_write.proofs.TypeLists.{list_mapped}

pub entries : (es : List RecGroup) → list_encoding core_group_encoding es ≡ list_encoding rec_group_encoding (map rec_group es)
unfolding core_group_encoding
entries es = list_mapped rec_group_encoding rec_group es

pub ruleset steps = (entries)
