use Rattle.wasmparser_names.proofs.KeptImports.{kept_last, known_last}
use Rattle.wasmparser_names.proofs.import_names.push.Goals as goal

pub returns-clause-added : goal.returns-clause-added
returns-clause-added c modules =
    rw c.in_ok-push.ensures.items
    (kept_last modules c.args.imports.now.items (record { origin = c.args.origin; name = c.in_ok-name.name; item = c.args.item }) c.args.name.now c.in_ok-name.ensures.copied)

pub returns-clause-known : goal.returns-clause-known
returns-clause-known c modules few all =
    rw c.in_ok-push.ensures.items (known_last modules c.args.imports.now.items (record { origin = c.args.origin; name = c.in_ok-name.name; item = c.args.item }) few all)
