use Rattle.std.proofs.Common.{refl}
use Rattle.wasmparser_rec_groups.specs.Rules.{is_too_deep}
use Rattle.wasmparser_rec_groups.proofs.rules.check_depth.Goals as goal

pub returns-then-not-is_within_depth-clause-refused : goal.returns-then-not-is_within_depth-clause-refused
returns-then-not-is_within_depth-clause-refused c = is_too_deep (c.if-not-is_within_depth.ensures.past refl)

pub returns-clause-within : goal.returns-clause-within
returns-clause-within c = c.if-not-is_within_depth.ensures.within refl
