use Rattle.std.proofs.Common.{◌≡◌, map, drop}
use Rattle.std.specs.List.{flat_map}
use Rattle.wasm_core_types.specs.SubTypes.{sub_type}
use Rattle.wasm_smith_shapes.specs.Imports.{import_entry}
use Rattle.wasm_smith_module.proofs.imported.imported_spaces.Given as goal
use Rattle.wasm_smith_validity.specs.Spaces.{spaces_of_types, with_items}
use Rattle.wasm_spec.specs.Syntax.{imported_by}

abbrev pub invariant-loop-entry : goal.invariant-loop-entry
invariant-loop-entry l = record {
  added : with_items l.spaces (flat_map (λ entry. imported_by (import_entry entry)) (drop l.entry-index l.imports))
      ≡ with_items (spaces_of_types (map sub_type l.types)) (flat_map (λ entry. imported_by (import_entry entry)) l.imports);
}
