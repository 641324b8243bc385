use Rattle.std.proofs.Common.{◌≡◌, ◌++◌, map, drop}
use Rattle.wasm_spec.specs.TypeReferences.{val_map}
use Rattle.wasmparser_types.specs.ValTypes as known_values
use Rattle.wasm_gen_view.specs.KnownReferences.{refer}
use Rattle.wasm_gen_view.specs.Types.{val_type}
use Rattle.wasm_gen_view.proofs.known_references.KnownReferences.val_types.Given as goal

abbrev pub invariant-loop-ty : goal.invariant-loop-ty
invariant-loop-ty l = record {
  kept : map val_type l.numbered.items ++ map (val_map (refer l.self)) (map known_values.val_type (drop l.ty-index l.types)) ≡ map (val_map (refer l.self)) (map known_values.val_type l.types);
}
