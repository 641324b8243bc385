use Rattle.std.proofs.Common.{drop}
use Rattle.wasmparser_names.proofs.KeptExports.{Suffices}
use Rattle.wasmparser_names.specs.KeptExports.{AreNamed, listed}
use Rattle.wasmparser_names.proofs.export_names.hashes_of.Given as goal

abbrev pub invariant-loop-export : goal.invariant-loop-export
invariant-loop-export l = record {
  named : AreNamed l.names l.start (drop l.export-index l.exports);
  suffices : Suffices l.hasher l.hashes.keys (listed l.names l.start (drop l.export-index l.exports)) (listed l.names 0 l.exports);
}
