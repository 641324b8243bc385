use Rattle.wasmparser_payloads.proofs.ModuleLaws.{module_is, module_exactly}
use Rattle.wasmparser_payloads.proofs.laws.pieces_are_sections.Goals as goal

pub returns : goal.returns
returns c = record { modules = module_exactly; reading = module_is }
