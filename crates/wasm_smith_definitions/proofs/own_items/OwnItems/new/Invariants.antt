use Rattle.std.proofs.Common.{◌≡◌, drop, map}
use Rattle.wasm_encoder_sections.specs.CoreItems.{entity_type}
use Rattle.wasm_spec.specs.TypeReferences.{external_map}
use Rattle.wasm_smith_types.specs.Copies.{shifted_index}
use Rattle.wasm_smith_definitions.specs.OwnItems.{own_items}
use Rattle.wasm_smith_definitions.proofs.OwnItemLaws.{joined}
use Rattle.wasm_smith_definitions.proofs.own_items.OwnItems.new.Given as goal

abbrev pub invariant-loop-export : goal.invariant-loop-export
invariant-loop-export l = record {
  so_far : joined l.own (own_items (map (external_map (shifted_index l.shift.start l.shift.by)) (map (λ export. entity_type export.ty) (drop l.export-index l.exports))))
      ≡ own_items (map (external_map (shifted_index l.shift.start l.shift.by)) (map (λ export. entity_type export.ty) l.exports));
}
