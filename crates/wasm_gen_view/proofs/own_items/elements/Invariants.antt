use Rattle.std.proofs.Common.{◌≡◌, ◌++◌, map, drop}
use Rattle.wasm_gen_view.specs.ItemReferences.{refer}
use Rattle.wasm_gen_view.specs.Types.{ref_type}
use Rattle.wasm_smith_definitions.specs.Items.{element_segment}
use Rattle.wasm_spec.specs.TypeReferences.{ref_map}
use Rattle.wasm_validity.specs.Context.{element_type}
use Rattle.wasm_gen_view.proofs.own_items.elements.Given as goal

abbrev pub invariant-loop-segment : goal.invariant-loop-segment
invariant-loop-segment l = record {
  kept : map ref_type l.types.items ++ map (ref_map (refer l.numbers)) (map (λ segment. element_type segment.items) (map element_segment (drop l.segment-index l.segments)))
      ≡ map (ref_map (refer l.numbers)) (map (λ segment. element_type segment.items) (map element_segment l.segments));
}
