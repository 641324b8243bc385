use Rattle.std.proofs.Common.{◌≡◌, drop}
use Rattle.wasmparser_names.specs.ExportNames.{is_exported}
use Rattle.wasmparser_names.specs.KeptExports.{AreNamed, listed}
use Rattle.wasmparser_names.proofs.export_names.has_name.Given as goal

abbrev pub invariant-loop-export : goal.invariant-loop-export
invariant-loop-export l = record {
  named : AreNamed l.names l.start (drop l.export-index l.exports);
  left : is_exported l.name (listed l.names l.start (drop l.export-index l.exports)) ≡ is_exported l.name (listed l.names 0 l.exports);
}
