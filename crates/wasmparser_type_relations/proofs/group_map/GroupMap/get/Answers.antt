use Rattle.std.proofs.Common.{sym, ◌∙◌}
use Rattle.wasmparser_type_relations.proofs.KeyLookups.{found_is}
use Rattle.wasmparser_type_relations.proofs.group_map.GroupMap.get.Goals as goal

pub returns : goal.returns
returns c = rw (sym c.self.view_is) (c.copied.ensures ∙ c.get.ensures.value ∙ sym (found_is c.self.inside.map.entries c.args.key.now))
