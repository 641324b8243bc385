use Rattle.wasmparser_readers.specs.Exports.{export_item}
use Rattle.wasmparser_names.proofs.KeptExports.{after_is_new, ends_in_last}
use Rattle.wasmparser_names.specs.KeptExports.{listed}
use Rattle.std.proofs.Common.{refl}
use Rattle.wasmparser_names.proofs.export_names.is_new.Goals as goal

pub returns-then-is_after-clause-new : goal.returns-then-is_after-clause-new
returns-then-is_after-clause-new c = after_is_new c.args.export.now.name.now (listed c.args.names.now 0 c.args.exports.now) (c.if-is_after.ensures refl)

pub returns-then-is_after-clause-ready : goal.returns-then-is_after-clause-ready
returns-then-is_after-clause-ready c new =
    rw c.in_default.is (ends_in_last (export_item c.args.export.now) (listed c.args.names.now 0 c.args.exports.now) (c.if-is_after.ensures refl))
