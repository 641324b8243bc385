-- After types none of which has two indexes, a group's tree tells its members.
use Rattle.std.proofs.Common.{◌≡◌, ℕ, ◌+◌, ◌-◌, List, length, ap, sym, ◌∙◌, arith, inl, inr, Some}
use Rattle.std.specs.List.{slice_get}
use Rattle.wasm_spec.specs.Syntax.{members}
use Rattle.wasm_spec.specs.TypeReferences.{subs_map}
use Rattle.wasm_spec.specs.Trees.{Own, Other, DefType, reference_to, reference_of, tree_of, AreDistinct}
use Rattle.wasm_spec.specs.Types.{RecGroup}
use Rattle.wasm_spec.proofs.GroupTrees.{roll-injective}
use Rattle.wasm_spec.proofs.Places.{get_either}
use Rattle.wasm_spec.proofs.TypeMaps.{subs_map_injective}

same_type : (a b : DefType) → a.tree ≡ b.tree → a.place ≡ b.place → a ≡ b
same_type a b trees places =
    ap (λ t. record { tree = t; place = a.place }) trees ∙ ap (λ p. record { tree = b.tree; place = p }) places

-- what a reference is: an earlier type, or an own place
data Found (ts : List DefType) (n : ℕ) : Type 0 where
  earlier : (d : DefType) → slice_get ts n ≡ Some d → reference_of ts n ≡ Other d.tree d.place → Found ts n
  own : (j : ℕ) → n ≡ length ts + j → reference_of ts n ≡ Own j → Found ts n

found : (ts : List DefType) (n : ℕ) → Found ts n
found ts n = elim (get_either ts n) [
  | inl at ↦ earlier at.0 at.1 (ap (λ q. reference_to q (n - length ts)) at.1)
  | inr at ↦
      let j = at.1.0 in
      let place : n - length ts ≡ j = omega (arith, at.1.1) in
      own j at.1.1 (ap (λ q. reference_to q (n - length ts)) at.0 ∙ ap Own place)
]

reference_injective : (ts : List DefType) → AreDistinct ts → (n m : ℕ) → reference_of ts n ≡ reference_of ts m → n ≡ m
reference_injective ts one n m e = go (found ts n) (found ts m)
  where
    go : Found ts n → Found ts m → n ≡ m
    go (earlier a at is) (earlier b at' is') =
        let f : Other a.tree a.place ≡ Other b.tree b.place = sym is ∙ e ∙ is' in
        let trees : b.tree ≡ a.tree = cc in
        let places : b.place ≡ a.place = cc in
        one n m a at (at' ∙ ap Some (same_type b a trees places))
    go (own j at is) (own k at' is') =
        let f : Own j ≡ Own k = sym is ∙ e ∙ is' in
        let places : j ≡ k = cc in
        omega (arith, at, at', places)
    go (earlier a at is) (own k at' is') = let f : Other a.tree a.place ≡ Own k = sym is ∙ e ∙ is' in cc
    go (own j at is) (earlier b at' is') = let f : Own j ≡ Other b.tree b.place = sym is ∙ e ∙ is' in cc

pub same_members : (ts : List DefType) → AreDistinct ts → (g h : RecGroup ℕ) → tree_of ts g ≡ tree_of ts h → members g ≡ members h
same_members ts one g h e =
    subs_map_injective 0 (reference_of ts) (reference_injective ts one) (members g) (members h)
    (roll-injective (subs_map (reference_of ts) (members g)) (subs_map (reference_of ts) (members h)) e)
