use Rattle.std.proofs.Common.{ap, sym, ◌∙◌}
use Rattle.std.specs.Prelude.{bytes_eq}
use Rattle.wasmparser_names.proofs.KeptExports.{others_left, others_named, this_has, this_named}
use Rattle.wasmparser_names.specs.declared.export_names.KeptExport.{KeptExport}
use Rattle.wasmparser_readers.specs.declared.export.ExternalKind.TheVariants.{Func}
use Rattle.wasmparser_names.proofs.export_names.has_name.Goals as goal

abbrev none : KeptExport
none = record { end = 0; kind = Func; index = 0 }

pub name_at-requires : goal.name_at-requires
name_at-requires c = this_named c.args.names.now c.args.exports.now c.loop-export.export-index c.loop-export.start none c.loop-export-test.true c.loop-export.invariant.named

pub returns-then-eq : goal.returns-then-eq
returns-then-eq c = this_has c.args.names.now c.args.name.now c.args.exports.now c.loop-export.export-index c.loop-export.start none c.loop-export-test.true c.loop-export.invariant.left (ap (bytes_eq c.args.name.now) (sym c.name_at.ensures) ∙ sym c.if-eq.ensures)

pub loop-export-preserved : goal.loop-export-preserved
loop-export-preserved c = record {
  named = others_named c.args.names.now c.args.exports.now c.loop-export.export-index c.loop-export.start none c.loop-export-test.true c.loop-export.invariant.named;
  left = others_left c.args.names.now c.args.name.now c.args.exports.now c.loop-export.export-index c.loop-export.start none c.loop-export-test.true c.loop-export.invariant.left (ap (bytes_eq c.args.name.now) (sym c.name_at.ensures) ∙ sym c.if-eq.ensures);
}
