use Rattle.std.proofs.Common.{◌<◌, map, ◌≤◌, length}
use Rattle.wasm_smith_shapes.specs.Imports.{import_item}
use Rattle.wasm_smith_externs.specs.Added.{AreAdded, IsImporterFor}
use Rattle.wasm_smith_externs.specs.Named.{named_item}
use Rattle.wasm_smith_externs.proofs.entries.items.Given as goal

abbrev pub invariant-items : goal.invariant-items
invariant-items l = record {
  importer : IsImporterFor l.spaces.types l.importer;
  added : AreAdded l.importer.config.now l.importer.bounds l.fn.spaces l.spaces l.fn.progress l.progress (map (named_item l.origin) (map import_item l.items.items));
  taken : length l.unstructured ≤ length l.fn.unstructured;
  fewer : l.progress.left < l.fn.progress.left;
}

abbrev pub decreases-items : goal.decreases-items
decreases-items l = l.progress.left
