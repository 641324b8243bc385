use Rattle.wasmparser_payloads.proofs.EndLaws.{ended_is_whole}
use Rattle.wasmparser_payloads.proofs.ModuleFronts.{all_alike, module_is_whole, whole_is_module}
use Rattle.wasmparser_payloads.proofs.entry_laws.ended_modules.Goals as goal

pub returns : goal.returns
returns c = record { sections = ended_is_whole; alike = all_alike; whole = module_is_whole; agreeing = whole_is_module }
