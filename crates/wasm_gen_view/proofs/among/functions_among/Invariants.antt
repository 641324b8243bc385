use Rattle.std.proofs.Common.{◌≡◌, ◌++◌, map, drop}
use Rattle.wasm_gen_view.specs.MadeSpaces.{functions_among}
use Rattle.wasm_gen_view.specs.Views.{item_type}
use Rattle.wasm_gen_view.specs.declared.types.TypeReference.TheVariants.{Other}
use Rattle.wasm_gen_view.proofs.among.functions_among.Given as goal

abbrev pub invariant-loop-item : goal.invariant-loop-item
invariant-loop-item l = record {
  kept : map (λ place. Other place) l.functions.items ++ functions_among (map item_type (drop l.item-index l.items)) ≡ functions_among (map item_type l.items);
}
