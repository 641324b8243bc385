use Rattle.std.proofs.Common.{◌≡◌, ◌++◌, map, drop, string_bytes}
use Rattle.wasm_encoder_sections.specs.CoreItems.{entity_type}
use Rattle.wasm_gen_view.specs.ItemReferences.{refer}
use Rattle.wasm_gen_view.specs.Views.{item_type}
use Rattle.wasm_spec.specs.TypeReferences.{external_map}
use Rattle.wasm_gen_view.proofs.imported.push_named.Given as goal

abbrev pub invariant-loop-name : goal.invariant-loop-name
invariant-loop-name l = record {
  item : item_type l.item ≡ external_map (refer l.numbers) (entity_type l.ty);
  kept : map item_type l.imported.items ++ map (external_map (refer l.numbers)) (map (λ name. entity_type l.ty) (map string_bytes (drop l._name-index l.names)))
      ≡ map item_type l.fn.imported.items ++ map (external_map (refer l.numbers)) (map (λ name. entity_type l.ty) (map string_bytes l.names));
}
