use Rattle.std.proofs.Common.{◌≡◌, ◌++◌, map, drop}
use Rattle.wasm_core_types.specs.CoreTypes.{val_type}
use Rattle.wasm_spec.specs.TypeReferences.{val_map}
use Rattle.wasm_smith_types.specs.Copies.{shifted_index}
use Rattle.wasm_smith_types.proofs.shifts.Shift.values.Given as goal

abbrev pub invariant-loop-type_ : goal.invariant-loop-type_
invariant-loop-type_ l = record {
  kept : map val_type l.shifted.items ++ map (val_map (shifted_index l.self.start l.self.by)) (map val_type (drop l.type_-index l.types)) ≡ map
      (val_map (shifted_index l.self.start l.self.by)) (map val_type l.types);
}
