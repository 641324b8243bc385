use Rattle.std.proofs.Common.{◌≡◌, map, drop}
use Rattle.wasm_encoder_sections.specs.CoreItems.{entity_type}
use Rattle.wasm_smith_module.proofs.imported.push_named.Given as goal
use Rattle.wasm_smith_validity.specs.Spaces.{with_items}

abbrev pub invariant-loop-name : goal.invariant-loop-name
invariant-loop-name l = record {
  added : with_items l.spaces (map (λ name. entity_type l.ty) (drop l._name-index l.names)) ≡ with_items l.fn.spaces (map (λ name. entity_type l.ty) l.names);
}
