use Rattle.wasmparser_type_relations.proofs.KeyLaws.{groups_apart}
use Rattle.wasmparser_type_relations.proofs.key_laws.group_keys.Goals as goal

pub returns : goal.returns
returns c = groups_apart
