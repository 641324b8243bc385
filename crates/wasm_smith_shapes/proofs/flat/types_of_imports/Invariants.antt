use Rattle.std.proofs.Common.{◌≡◌, ◌++◌, map}
use Rattle.std.specs.List.{flat_map}
use Rattle.wasm_encoder_sections.specs.CoreItems.{entity_type}
use Rattle.wasm_spec.specs.Syntax.{imported_by}
use Rattle.wasm_smith_shapes.specs.Imports.{import_entry}
use Rattle.wasm_smith_shapes.proofs.FlatLaws.{rest}
use Rattle.wasm_smith_shapes.proofs.flat.types_of_imports.Given as goal

abbrev pub invariant-loop-entry : goal.invariant-loop-entry
invariant-loop-entry l = record {
  added : map entity_type l.types.items ++ rest import_entry imported_by l.imports l.entry-index ≡ flat_map imported_by (map import_entry l.imports);
}
