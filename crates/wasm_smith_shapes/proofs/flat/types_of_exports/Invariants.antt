use Rattle.std.proofs.Common.{◌≡◌, ◌++◌, map, drop}
use Rattle.wasm_encoder_sections.specs.CoreItems.{entity_type}
use Rattle.wasm_smith_shapes.specs.Shapes.{named_item}
use Rattle.wasm_smith_shapes.proofs.flat.types_of_exports.Given as goal

abbrev pub invariant-loop-export : goal.invariant-loop-export
invariant-loop-export l = record {
  added : map entity_type l.types.items ++ map (λ export. export.type) (map named_item (drop l.export-index l.exports)) ≡ map (λ export. export.type) (map named_item l.exports);
}
