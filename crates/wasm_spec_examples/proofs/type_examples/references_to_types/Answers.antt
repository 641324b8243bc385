use Rattle.std.proofs.Common.{◌≡◌, [], ◌∷◌, refl, ap}
use Rattle.wasm_spec.specs.Subtyping.{abstract_of}
use Rattle.wasm_spec.specs.Trees.{GroupTree, Rolled, Own, Other, NoMore, Then}
use Rattle.wasm_spec.specs.Types.{AbstractHeapType, Func, Struct}
use Rattle.wasm_spec_examples.proofs.type_examples.references_to_types.Goals as goal

-- the kind of the first type of a tree, and any where there is none
abbrev first_kind : GroupTree → AbstractHeapType
first_kind (Rolled [] rs) = Func
first_kind (Rolled (shape ∷ shapes) rs) = abstract_of shape.composite_type

-- the kind of the first type of the tree that a tree refers to first, and any where it refers to itself or to none
abbrev kind_inside : GroupTree → AbstractHeapType
kind_inside (Rolled shapes NoMore) = Func
kind_inside (Rolled shapes (Then (Own place) rs)) = Func
kind_inside (Rolled shapes (Then (Other tree place) rs)) = first_kind tree

pub returns : goal.returns
returns c = record {
  one_type = refl;
  another = λ e. let kinds : Struct ≡ Func = ap (λ d. kind_inside d.tree) e in absurd cc;
  own = λ e. let kinds : Func ≡ Struct = ap (λ d. kind_inside d.tree) e in absurd cc;
}
