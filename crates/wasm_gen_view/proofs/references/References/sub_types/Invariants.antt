use Rattle.std.proofs.Common.{◌≡◌, ◌++◌, map, drop}
use Rattle.wasm_core_types.specs.SubTypes as written_types
use Rattle.wasm_spec.specs.TypeReferences.{sub_map}
use Rattle.wasm_gen_view.specs.TypeNumbers.{reference_by}
use Rattle.wasm_gen_view.specs.Types.{sub_type}
use Rattle.wasm_gen_view.proofs.references.References.sub_types.Given as goal

abbrev pub invariant-loop-ty : goal.invariant-loop-ty
invariant-loop-ty l = record {
  kept : map sub_type l.numbered.items ++ map (sub_map (reference_by l.self.outside l.self.places.now)) (map written_types.sub_type (drop l.ty-index l.types)) ≡ map
      (sub_map (reference_by l.self.outside l.self.places.now)) (map written_types.sub_type l.types);
}
