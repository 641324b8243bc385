use Rattle.std.proofs.Common.{◌≡◌, ◌++◌, map, drop}
use Rattle.wasm_core_types.specs.CoreTypes.{field_type}
use Rattle.wasm_spec.specs.TypeReferences.{field_map}
use Rattle.wasm_smith_types.specs.Copies.{shifted_index}
use Rattle.wasm_smith_types.proofs.shifts.Shift.fields.Given as goal

abbrev pub invariant-loop-field : goal.invariant-loop-field
invariant-loop-field l = record {
  kept : map field_type l.shifted.items ++ map (field_map (shifted_index l.self.start l.self.by)) (map field_type (drop l.field-index l.fields)) ≡ map
      (field_map (shifted_index l.self.start l.self.by)) (map field_type l.fields);
}
