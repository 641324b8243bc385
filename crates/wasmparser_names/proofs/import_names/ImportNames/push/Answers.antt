use Rattle.wasmparser_names.proofs.KeptImports.{kept_pushed}
use Rattle.wasmparser_names.proofs.import_names.ImportNames.push.Goals as goal

pub returns-clause-added : goal.returns-clause-added
returns-clause-added c =
    rw (← c.self.view_is) (kept_pushed c.self.inside.modules.names c.self.inside.modules.hasher c.self.inside.imports.items c.push.new.imports.items _ c.push.result (c.push.ensures.added c.self.inside.modules.names))
