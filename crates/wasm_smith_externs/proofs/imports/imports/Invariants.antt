use Rattle.std.proofs.Common.{◌≡◌, map, ◌≤◌, length}
use Rattle.wasm_smith_shapes.specs.Imports.{import_entry}
use Rattle.wasm_smith_externs.specs.Added.{AreMadeSoFar, IsImporterFor}
use Rattle.wasm_smith_externs.proofs.ImportLaws.{HasBegun}
use Rattle.wasm_smith_externs.proofs.imports.imports.Given as goal

abbrev pub invariant-grow : goal.invariant-grow
invariant-grow l = record {
  importer : IsImporterFor l.spaces.types l.importer;
  config : l.importer.config.now ≡ l.config;
  bounds : l.importer.bounds ≡ l.fn.bounds;
  made : AreMadeSoFar l.config l.fn.bounds l.fn.duplicates l.fn.spaces l.spaces l.progress (map import_entry l.entries.items);
  taken : length l.unstructured ≤ length l.fn.unstructured;
  begun : HasBegun l.config l.fn.bounds l.fn.spaces l.fn.unstructured l.progress l.spaces l.unstructured (map import_entry l.entries.items);
}

abbrev pub decreases-grow : goal.decreases-grow
decreases-grow l = l.progress.left
