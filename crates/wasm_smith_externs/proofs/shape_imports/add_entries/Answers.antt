use Rattle.wasm_smith_shapes.specs.Imports.{import_entry}
use Rattle.wasm_smith_externs.proofs.ShapeImportLaws.{next_imported}
use Rattle.wasm_smith_externs.proofs.shape_imports.add_entries.Goals as goal

pub loop-entry-preserved : goal.loop-entry-preserved
loop-entry-preserved c = record {
  added = next_imported import_entry c.args.entries.now c.loop-entry.entry-index c.entry-item.result c.loop-entry.spaces c.add_entry.new.spaces _ c.loop-entry-test.true c.entry-item.is
      c.in_ok-add_entry.ensures c.loop-entry.invariant.added;
}
