use Rattle.std.proofs.Common.{◌≡◌, ◌++◌, map, drop}
use Rattle.std.specs.String.{string_bytes}
use Rattle.wasm_encoder_sections.specs.CoreItems.{entity_type}
use Rattle.wasm_smith_shapes.proofs.flat.push_named.Given as goal

abbrev pub invariant-loop-name : goal.invariant-loop-name
invariant-loop-name l = record {
  added : map entity_type l.types.items ++ map (λ name. entity_type l.ty) (map string_bytes (drop l._name-index l.names))
      ≡ map entity_type l.fn.types.items ++ map (λ name. entity_type l.ty) (map string_bytes l.names);
}
