use Rattle.std.proofs.Common.{◌≡◌, ℕ, List, [], ◌∷◌, ◌++◌, length, refl, ap}
use Rattle.std.proofs.lemmas.List.{append-nil}
use Rattle.wasm_spec.specs.Trees.{DefType, GroupTree, Rolled, Own, Other, NoMore, Then, types_after, types_from}
use Rattle.wasm_spec.specs.Types.{Group, RecGroup}
use Rattle.wasm_spec_examples.proofs.matching_examples.several_groups.Goals as goal

abbrev size_of : GroupTree → ℕ
size_of (Rolled shapes rs) = length shapes

-- the place that the first reference of a tree names in another one, and past all places where it names none there
abbrev place_inside : GroupTree → ℕ
place_inside (Rolled shapes NoMore) = 100
place_inside (Rolled shapes (Then (Own place) rs)) = 100
place_inside (Rolled shapes (Then (Other tree place) rs)) = place

nothing_between : (before : List DefType) (groups others : List (RecGroup ℕ)) → types_from before (groups ++ (Group [] ∷ others)) ≡ types_from before (groups ++ others)
nothing_between before [] others = ap (λ types. types_from types others) (append-nil before)
nothing_between before (group ∷ groups) others = nothing_between (types_after before group) groups others

pub returns : goal.returns
returns c = record {
  alone = refl;
  member = λ e. let n : 1 ≡ 2 = ap (λ d. size_of d.tree) e in absurd cc;
  empty_group = nothing_between [];
  same_place = refl;
  other_place = λ e. let p : 0 ≡ 1 = ap (λ d. place_inside d.tree) e in absurd cc;
}
