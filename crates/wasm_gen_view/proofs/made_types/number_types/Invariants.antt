use Rattle.std.proofs.Common.{◌≡◌, ◌+◌, ℕ, List, length, map, drop, flat_map, sum}
use Rattle.wasm_core_types.specs.SubTypes.{sub_type}
use Rattle.wasm_spec.specs.Syntax.{members}
use Rattle.wasm_spec.specs.Types.{RecGroup}
use Rattle.wasm_gen_view.proofs.MadeTypes.{AreSoFar}
use Rattle.wasm_gen_view.proofs.made_types.number_types.Given as goal

-- some groups are numbered, and the types that are left are as many as the sizes that are left say
abbrev pub invariant-loop-size : goal.invariant-loop-size
invariant-loop-size l = record {
  far : (groups : List (RecGroup ℕ)) → map sub_type l.types ≡ flat_map members groups → l.sizes ≡ map (λ group. length (members group)) groups
      → AreSoFar groups l.numbers.groups l.numbers.places.items (map sub_type (drop l.start l.types)) (drop l.size-index l.sizes);
  left : l.start + sum (drop l.size-index l.sizes) ≡ length l.types;
}
