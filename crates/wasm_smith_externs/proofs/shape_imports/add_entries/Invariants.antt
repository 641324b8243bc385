use Rattle.std.proofs.Common.{◌≡◌, map, drop}
use Rattle.std.specs.List.{flat_map}
use Rattle.wasm_spec.specs.Syntax.{imported_by}
use Rattle.wasm_smith_shapes.specs.Imports.{import_entry}
use Rattle.wasm_smith_validity.specs.Spaces.{with_items}
use Rattle.wasm_smith_externs.proofs.shape_imports.add_entries.Given as goal

abbrev pub invariant-loop-entry : goal.invariant-loop-entry
invariant-loop-entry l = record {
  added : with_items l.spaces (flat_map imported_by (map import_entry (drop l.entry-index l.entries))) ≡ with_items l.fn.spaces (flat_map imported_by (map import_entry l.entries));
}
