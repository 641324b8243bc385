use Rattle.std.proofs.Common.{refl, ap}
use Rattle.wasm_spec.specs.Trees.{roll, reference_of}
use Rattle.wasm_spec.specs.TypeReferences.{subs_map}
use Rattle.wasm_spec.proofs.EqualTrees.{same_members}
use Rattle.wasm_spec.proofs.GroupTrees.{opened-roll, roll-injective}
use Rattle.wasm_spec.proofs.subtyping_laws.group_trees.Goals as goal

pub returns : goal.returns
returns c = record {
  opened = opened-roll;
  one_tree = λ a b. (λ e. roll-injective a b e, λ e. ap roll e);
  alone = λ before type. refl;
  members = λ before a b one. (λ e. same_members before one a b e, λ e. ap (λ types. roll (subs_map (reference_of before) types)) e);
}
