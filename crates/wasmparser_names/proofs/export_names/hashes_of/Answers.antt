use Rattle.std.proofs.Common.{◌∙◌, subst, ap}
use Rattle.std.proofs.Math.ListN.{drop_of_length-le}
use Rattle.wasmparser_readers.specs.declared.export.ExternalKind.TheVariants.{Func}
use Rattle.wasmparser_names.proofs.KeptExports.{Suffices, others_named, others_suffice, suffice, this_named}
use Rattle.wasmparser_names.specs.KeptExports.{hash_of, listed}
use Rattle.wasmparser_names.specs.declared.export_names.KeptExport.{KeptExport}
use Rattle.wasmparser_names.proofs.export_names.hashes_of.Goals as goal

abbrev none : KeptExport
none = record { end = 0; kind = Func; index = 0 }

pub name_at-name-requires : goal.name_at-name-requires
name_at-name-requires c = this_named c.args.names.now c.args.exports.now c.loop-export.export-index c.loop-export.start none c.loop-export-test.true c.loop-export.invariant.named

pub loop-export-preserved : goal.loop-export-preserved
loop-export-preserved c = record {
  named = others_named c.args.names.now c.args.exports.now c.loop-export.export-index c.loop-export.start none c.loop-export-test.true c.loop-export.invariant.named;
  suffices = others_suffice c.args.hasher.now c.args.names.now c.args.exports.now c.loop-export.export-index c.loop-export.start none c.loop-export-test.true
      c.loop-export.hashes.keys c.insert.new.self.keys c.hash_of.result c.in_ok-insert.ensures.updates.0 c.in_ok-insert.ensures.updates.1
      (c.hash_of.ensures ∙ ap (hash_of c.args.hasher.now) c.name_at-name.ensures) c.loop-export.invariant.suffices;
}

pub returns : goal.returns
returns c =
    suffice c.args.hasher.now c.loop-export.hashes.keys (listed c.args.names.now 0 c.args.exports.now)
    (subst (λ l. Suffices c.args.hasher.now c.loop-export.hashes.keys (listed c.args.names.now c.loop-export.start l) (listed c.args.names.now 0 c.args.exports.now))
    (drop_of_length-le c.args.exports.now c.loop-export-test.false) c.loop-export.invariant.suffices)
