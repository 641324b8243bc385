use Rattle.std.proofs.Common.{sym, ◌∙◌}
use Rattle.wasmparser_type_relations.proofs.KeyLookups.{found_is, others_found}
use Rattle.wasmparser_type_relations.proofs.group_map.GroupMap.insert.Goals as goal

pub returns-clause-entered : goal.returns-clause-entered
returns-clause-entered c = found_is c.insert.new.self.entries c.args.key.items ∙ c.in_ok-insert.ensures.updates.1

pub returns-clause-others : goal.returns-clause-others
returns-clause-others c = rw (sym c.self.view_is) (others_found c.self.inside.map.entries c.insert.new.self.entries c.args.key c.in_ok-insert.ensures.updates.3)
