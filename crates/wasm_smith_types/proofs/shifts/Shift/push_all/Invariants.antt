use Rattle.std.proofs.Common.{◌≡◌, ◌++◌, map, drop}
use Rattle.wasm_core_types.specs.SubTypes.{sub_type}
use Rattle.wasm_spec.specs.TypeReferences.{sub_map}
use Rattle.wasm_smith_types.specs.Copies.{shifted_index}
use Rattle.wasm_smith_types.proofs.shifts.Shift.push_all.Given as goal

abbrev pub invariant-loop-type_ : goal.invariant-loop-type_
invariant-loop-type_ l = record {
  added : map sub_type l.types.items ++ map (sub_map (shifted_index l.self.start l.self.by)) (map sub_type (drop l.type_-index l.more))
      ≡ map sub_type l.fn.types.items ++ map (sub_map (shifted_index l.self.start l.self.by)) (map sub_type l.more);
}
