use Rattle.wasmparser_validator.proofs.BodiesById.{answer_by_ids}
use Rattle.wasmparser_validator.proofs.laws.answers.Goals as goal

pub returns : goal.returns
returns c = answer_by_ids
