use Rattle.std.proofs.Common.{rules}
use Rattle.wasmparser_entries.proofs.ItemLaws.{checked_item}
use Rattle.wasmparser_entries.proofs.import_item.check_item.Goals as goal

pub returns-in-Ok : goal.returns-in-Ok
returns-in-Ok c = (checked_item _ _ _ _ _ _ c.in_ok-read_string.ensures.exact.0 c.in-Ok.ensures.0 c.external_is_of_module.ensures, search rules)
