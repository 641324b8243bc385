use Rattle.std.proofs.Common.{rules}
use Rattle.wasmparser_names.proofs.KeptExports.{pushed, pushed_named}
use Rattle.wasmparser_names.proofs.export_names.push.Goals as goal

pub returns-clause-pushed : goal.returns-clause-pushed
returns-clause-pushed c =
    rw (c.in_ok-push.ensures.items, c.in_ok-extend_from_slice.ensures.items, c.reserve.ensures.items, c.as_bytes.ensures.value)
    (pushed c.args.names.now.items c.args.export.now.name.now 0 c.args.exports.now.items _ (search rules) c.requires)

pub returns-clause-named : goal.returns-clause-named
returns-clause-named c =
    rw (c.in_ok-push.ensures.items, c.in_ok-extend_from_slice.ensures.items, c.reserve.ensures.items, c.as_bytes.ensures.value)
    (pushed_named c.args.names.now.items c.args.export.now.name.now 0 c.args.exports.now.items _ (search rules) (search rules) c.requires)
