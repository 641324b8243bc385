use Rattle.std.proofs.Common.{◌≡◌, ◌++◌, map, drop}
use Rattle.wasm_spec.specs.TypeReferences.{field_map}
use Rattle.wasmparser_types.specs.ValTypes as known_values
use Rattle.wasm_gen_view.specs.KnownReferences.{refer}
use Rattle.wasm_gen_view.specs.Types.{field_type}
use Rattle.wasm_gen_view.proofs.known_references.KnownReferences.field_types.Given as goal

abbrev pub invariant-loop-field : goal.invariant-loop-field
invariant-loop-field l = record {
  kept : map field_type l.numbered.items ++ map (field_map (refer l.self)) (map known_values.field_type (drop l.field-index l.fields)) ≡ map (field_map (refer l.self)) (map known_values.field_type l.fields);
}
