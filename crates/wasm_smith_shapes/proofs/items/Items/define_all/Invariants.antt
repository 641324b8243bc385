use Rattle.std.proofs.Common.{◌≡◌, map, drop}
use Rattle.wasm_core_types.specs.Features.{feature_set}
use Rattle.wasm_encoder_sections.specs.CoreItems.{entity_type}
use Rattle.wasm_smith_validity.specs.Spaces.{Spaces}
use Rattle.wasm_smith_shapes.specs.Standing.{Stand}
use Rattle.wasm_smith_shapes.proofs.ItemWalk.{DefinedLeft}
use Rattle.wasm_smith_shapes.proofs.items.Items.define_all.Given as goal

abbrev pub invariant-loop-type_ : goal.invariant-loop-type_
invariant-loop-type_ l = record {
  features : l.self.features ≡ l.fn.self.features;
  left : (spaces : Spaces) → Stand l.fn.self spaces
      → DefinedLeft (feature_set l.fn.self.features) l.self spaces (map entity_type l.items) (map entity_type (drop l.type_-index l.items));
}
