use Rattle.wasmparser_names.proofs.KeptImports.{numbered}
use Rattle.wasmparser_names.proofs.import_names.ImportNames.number_of.Goals as goal

pub returns-clause-kept : goal.returns-clause-kept
returns-clause-kept c = rw (← c.self.view_is) (numbered c.self.inside.modules.names c.args.module.now c.self.inside.imports.items c.self.invariant.1 c.self.inside.modules.hasher c.number.new.self.hasher c.number.ensures.hashed
    c.number.result c.number.new.self.names c.number.ensures.kept)
