-- Validating by what constant expressions see is validating by all that is known.
use Rattle.wasmparser_constants.proofs.SeenLaws.{below_in, below_seen, judged_in}

pub ruleset seen_steps = (judged_in, below_in, below_seen)
