use Rattle.std.proofs.Common.{◌≡◌, map, drop}
use Rattle.std.specs.String.{string_bytes}
use Rattle.wasm_encoder_sections.specs.CoreItems.{entity_type}
use Rattle.wasm_smith_validity.specs.Spaces.{with_items}
use Rattle.wasm_smith_externs.proofs.shape_imports.add_named.Given as goal

abbrev pub invariant-loop-name : goal.invariant-loop-name
invariant-loop-name l = record {
  added : with_items l.spaces (map (λ name. entity_type l.ty) (map string_bytes (drop l._name-index l.names)))
      ≡ with_items l.fn.spaces (map (λ name. entity_type l.ty) (map string_bytes l.names));
}
