use Rattle.std.proofs.Common.{rules}
use Rattle.wasmparser_names.proofs.KeptExports.{listed_len}
use Rattle.wasmparser_names.proofs.export_names.ExportNames.len.Goals as goal

pub returns : goal.returns
returns c = rw (← c.self.view_is, listed_len c.self.inside.names.items 0 c.self.inside.exports.items) (search rules)
