use Rattle.wasmparser_payloads.proofs.ModuleFronts.{fronts_are_first}
use Rattle.wasmparser_payloads.proofs.entry_laws.fronts_of_modules.Goals as goal

pub returns : goal.returns
returns c = fronts_are_first
