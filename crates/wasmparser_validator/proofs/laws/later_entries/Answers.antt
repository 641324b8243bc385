use Rattle.wasmparser_validator.proofs.LaterEntries.{later_is}
use Rattle.wasmparser_validator.proofs.laws.later_entries.Goals as goal

pub returns : goal.returns
returns c = later_is
