use Rattle.std.proofs.Common.{◌≡◌, ◌++◌, false, map, drop}
use Rattle.std.specs.String.{string_bytes}
use Rattle.wasm_encoder_sections.specs.CoreItems.{entity_type}
use Rattle.wasm_spec.specs.Syntax.{CompactNames}
use Rattle.wasm_smith_shapes.specs.Imports.{import_entry}
use Rattle.wasm_smith_externs.specs.ShapeImports.{written}
use Rattle.wasm_smith_externs.proofs.shape_imports.push_names.Given as goal

abbrev pub invariant-loop-name : goal.invariant-loop-name
invariant-loop-name l = record {
  added : map import_entry l.imports.items ++ written false (CompactNames l.origin (entity_type l.ty) (map string_bytes (drop l.name-index l.names)))
      ≡ map import_entry l.fn.imports.items ++ written false (CompactNames l.origin (entity_type l.ty) (map string_bytes l.names));
}
