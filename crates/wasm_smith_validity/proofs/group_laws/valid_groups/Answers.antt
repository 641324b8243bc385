use Rattle.wasm_smith_validity.proofs.GroupLaws.{valid_rules, valid_depth}
use Rattle.wasm_smith_validity.proofs.group_laws.valid_groups.Goals as goal

pub returns-clause-rules : goal.returns-clause-rules
returns-clause-rules c = valid_rules

pub returns-clause-depth : goal.returns-clause-depth
returns-clause-depth c = valid_depth
