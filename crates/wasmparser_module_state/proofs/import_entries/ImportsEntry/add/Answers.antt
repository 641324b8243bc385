use Rattle.std.proofs.Common.{◌≤◌, subst}
use Rattle.std.proofs.lemmas.Result.{err_from_is_err_and}
use Rattle.wasmparser_entries.specs.ImportEntries.{import_entry}
use Rattle.wasmparser_module_state.proofs.ImportLaws.{accepted_entry, refused_entry}
use Rattle.wasmparser_module_state.proofs.NamedImports.{left_named}
use Rattle.wasmparser_module_state.specs.History.{held}
use Rattle.wasmparser_module_state.specs.State.{features_of, unnamed}
use Rattle.wasmparser_module_state.proofs.import_entries.ImportsEntry.add.Goals as goal

pub returns-in_err-add_imports-clause-added : goal.returns-in_err-add_imports-clause-added
returns-in_err-add_imports-clause-added c =
    let h = c.in_err-add_imports.ensures.added in
    let old = c.args.state.now in
    let entry = import_entry c.args.self in
    let counted = c.in_ok-imports.ensures.grown in
    let p = err_from_is_err_and c.from_residual-in_err-add_imports.result c.from_residual-in_err-add_imports.ensures.1 in
    rw (p.1, p.2) (refused_entry (features_of old) (unnamed old) old.imported.imports (held old) entry _ h.0 (subst (λ n. n ≤ 1000000) counted.0 counted.1), h.1, left_named (unnamed old) _ old.imported.imports _ entry _ h.2 c.in_err-add_imports.ensures.named)

pub returns-clause-added : goal.returns-clause-added
returns-clause-added c =
    let imports = c.in_ok-imports.ensures.grown in
    accepted_entry _ _ _ _ _ c.args.self _ c.requires.of_module imports.0 imports.1 c.in_ok-add_imports.ensures.added c.in_ok-add_imports.ensures.named
