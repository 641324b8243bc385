use Rattle.std.proofs.Common.{◌≡◌, ◌≤◌, map, drop, length}
use Rattle.wasm_smith_shapes.specs.Imports.{import_entry}
use Rattle.wasm_smith_types.specs.Copies.{shifted_index}
use Rattle.wasm_smith_types.specs.Growing.{with_front}
use Rattle.wasm_smith_externs.specs.ShapeImports.{shape_imports_at}
use Rattle.wasm_smith_externs.proofs.shape_imports.write_entries.Given as goal

abbrev pub invariant-loop-entry : goal.invariant-loop-entry
invariant-loop-entry l = record {
  written : with_front (map import_entry l.imports.items)
      (shape_imports_at l.drawn l.compact (shifted_index l.shift.start l.shift.by) (map import_entry (drop l.entry-index l.entries)) l.unstructured)
      ≡ shape_imports_at l.drawn l.compact (shifted_index l.shift.start l.shift.by) (map import_entry l.entries) l.fn.unstructured;
  taken : length l.unstructured ≤ length l.fn.unstructured;
}
