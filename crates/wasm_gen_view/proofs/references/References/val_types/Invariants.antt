use Rattle.std.proofs.Common.{◌≡◌, ◌++◌, map, drop}
use Rattle.wasm_core_types.specs.CoreTypes as written
use Rattle.wasm_spec.specs.TypeReferences.{val_map}
use Rattle.wasm_gen_view.specs.TypeNumbers.{reference_by}
use Rattle.wasm_gen_view.specs.Types.{val_type}
use Rattle.wasm_gen_view.proofs.references.References.val_types.Given as goal

abbrev pub invariant-loop-ty : goal.invariant-loop-ty
invariant-loop-ty l = record {
  kept : map val_type l.numbered.items ++ map (val_map (reference_by l.self.outside l.self.places.now)) (map written.val_type (drop l.ty-index l.types)) ≡ map
      (val_map (reference_by l.self.outside l.self.places.now)) (map written.val_type l.types);
}
