use Rattle.std.proofs.Common.{◌≡◌, ◌++◌, map, drop}
use Rattle.wasm_gen_view.specs.ItemReferences.{refer}
use Rattle.wasm_gen_view.specs.declared.types.TypeReference.TheVariants.{Other}
use Rattle.wasm_gen_view.proofs.own_items.push_types.Given as goal

abbrev pub invariant-loop-index : goal.invariant-loop-index
invariant-loop-index l = record {
  kept : map (λ place. Other place) l.places.items ++ map (refer l.numbers) (drop l.index-index l.indexes) ≡ map (λ place. Other place) l.fn.places.items ++ map (refer l.numbers) l.indexes;
}
