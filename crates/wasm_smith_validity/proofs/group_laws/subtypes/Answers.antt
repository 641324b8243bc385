use Rattle.wasm_smith_validity.proofs.GroupLaws.{all_rules, linked_of_rules, trees_below}
use Rattle.wasm_smith_validity.proofs.group_laws.subtypes.Goals as goal

pub returns-clause-rules : goal.returns-clause-rules
returns-clause-rules c = all_rules

pub returns-clause-linked : goal.returns-clause-linked
returns-clause-linked c = linked_of_rules

pub returns-clause-trees : goal.returns-clause-trees
returns-clause-trees c = trees_below
