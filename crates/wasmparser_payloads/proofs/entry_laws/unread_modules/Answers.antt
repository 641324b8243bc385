use Rattle.wasmparser_payloads.proofs.Steps.{is_going}
use Rattle.wasmparser_payloads.proofs.UnreadLaws.{unread_is_none}
use Rattle.wasmparser_payloads.proofs.entry_laws.unread_modules.Goals as goal

pub returns : goal.returns
returns c = record { modules = unread_is_none; going = is_going }
