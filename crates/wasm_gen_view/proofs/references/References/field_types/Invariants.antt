use Rattle.std.proofs.Common.{◌≡◌, ◌++◌, map, drop}
use Rattle.wasm_core_types.specs.CoreTypes as written
use Rattle.wasm_spec.specs.TypeReferences.{field_map}
use Rattle.wasm_gen_view.specs.TypeNumbers.{reference_by}
use Rattle.wasm_gen_view.specs.Types.{field_type}
use Rattle.wasm_gen_view.proofs.references.References.field_types.Given as goal

abbrev pub invariant-loop-field : goal.invariant-loop-field
invariant-loop-field l = record {
  kept : map field_type l.numbered.items ++ map (field_map (reference_by l.self.outside l.self.places.now)) (map written.field_type (drop l.field-index l.fields)) ≡ map
      (field_map (reference_by l.self.outside l.self.places.now)) (map written.field_type l.fields);
}
