use Rattle.std.proofs.Common.{◌≡◌, ◌++◌, map, drop}
use Rattle.wasm_gen_view.specs.ItemReferences.{refer}
use Rattle.wasm_gen_view.specs.Types.{ref_type}
use Rattle.wasm_spec.specs.TypeReferences.{ref_map}
use Rattle.wasmparser_validator.specs.Shown.{spaces}
use Rattle.wasm_gen_view.proofs.known_items.elements.Given as goal

abbrev pub invariant-loop-index : goal.invariant-loop-index
invariant-loop-index l = record {
  kept : map ref_type l.items.items ++ drop l.index (map (ref_map (refer l.numbers)) (spaces l.types).elements) ≡ map (ref_map (refer l.numbers)) (spaces l.types).elements;
}
