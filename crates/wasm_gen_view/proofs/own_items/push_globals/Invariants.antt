use Rattle.std.proofs.Common.{◌≡◌, ◌++◌, map, drop}
use Rattle.wasm_gen_view.specs.ItemReferences.{refer}
use Rattle.wasm_gen_view.specs.Views.{global_type}
use Rattle.wasm_smith_definitions.specs.Items.{global}
use Rattle.wasm_spec.specs.TypeReferences.{global_map}
use Rattle.wasm_gen_view.proofs.own_items.push_globals.Given as goal

abbrev pub invariant-loop-global : goal.invariant-loop-global
invariant-loop-global l = record {
  kept : map global_type l.globals.items ++ map (global_map (refer l.numbers)) (map (λ global. global.type) (map global (drop l.global-index l.own)))
      ≡ map global_type l.fn.globals.items ++ map (global_map (refer l.numbers)) (map (λ global. global.type) (map global l.own));
}
