use Rattle.wasmparser_rec_groups.specs.Rules.{breaks_a_rule}
use Rattle.wasmparser_rec_groups.proofs.rules.check_rules.Goals as goal

pub returns-then-not-keeps_rules-clause-refused : goal.returns-then-not-keeps_rules-clause-refused
returns-then-not-keeps_rules-clause-refused c = breaks_a_rule (λ k. let no = c.if-not-keeps_rules.ensures.1 k in cc)
