use Rattle.std.proofs.Common.{◌≡◌, ℕ, refl, ap}
use Rattle.wasm_spec.specs.Trees.{GroupTree, Rolled, Own, Other, NoMore, Then}
use Rattle.wasm_spec_examples.proofs.type_examples.equal_groups.Goals as goal

-- the place that the first reference of a tree names in it, and past all places where it names another tree
abbrev first_place : GroupTree → ℕ
first_place (Rolled shapes NoMore) = 100
first_place (Rolled shapes (Then (Own place) rs)) = place
first_place (Rolled shapes (Then (Other tree place) rs)) = 100

pub returns : goal.returns
returns c = record {
  first = refl;
  second = refl;
  two_places = λ e. let p : 0 ≡ 1 = ap (λ d. d.place) e in absurd cc;
  other_places = λ e. let p : 1 ≡ 0 = ap (λ d. first_place d.tree) e in absurd cc;
  first_group = λ e. let p : 1 ≡ 100 = ap (λ d. first_place d.tree) e in absurd cc;
}
