use Rattle.std.proofs.Common.{◌<◌, map, string_bytes, ◌≤◌, length}
use Rattle.wasm_encoder_sections.specs.CoreItems.{entity_type}
use Rattle.wasm_smith_externs.specs.Added.{AreAdded, IsImporterFor}
use Rattle.wasm_smith_externs.specs.Candidates.{IsOfferedImport}
use Rattle.wasm_smith_externs.specs.Named.{named}
use Rattle.wasm_smith_externs.proofs.entries.names.Given as goal

abbrev pub invariant-names : goal.invariant-names
invariant-names l = record {
  importer : IsImporterFor l.spaces.types l.importer;
  offered : IsOfferedImport l.importer.config.now l.spaces.types (entity_type l.ty);
  added : AreAdded l.importer.config.now l.importer.bounds l.fn.spaces l.spaces l.fn.progress l.progress (map (named l.origin (entity_type l.ty)) (map string_bytes l.names.items));
  taken : length l.unstructured ≤ length l.fn.unstructured;
  fewer : l.progress.left < l.fn.progress.left;
}

abbrev pub decreases-names : goal.decreases-names
decreases-names l = l.progress.left
