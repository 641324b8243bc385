-- Codes of defined types, by which equal ones are found.
use Rattle.std.proofs.Common.{sym, ap, subst}
use Rattle.std.specs.Prelude.{◌≡◌, ⊤, ℕ, List, refl}
use Rattle.std.specs.Coded.{Coded, code_by, coded×, coded_ℕ, coded_list}
use Rattle.wasm_spec.specs.Trees.{GroupTree, Rolled, TreeReference, Own, Other, TreeReferences, NoMore, Then, DefType}
use Rattle.wasm_spec.specs.Types.{SubType}
use Rattle.wasm_validity_laws.specs.ShapeCodes.{sub_code}
use base.Stored.{Gv, gnil, gnum, gcons, coded_unit}

abbrev pub shapes_code : Coded (List (SubType ⊤))
shapes_code = coded_list (sub_code coded_unit)

-- ---- parts of a code

abbrev number : Gv → ℕ
number gnil = 0
number (gnum n) = n
number (gcons a b) = 0

abbrev head : Gv → Gv
head gnil = gnil
head (gnum n) = gnil
head (gcons a b) = a

abbrev tail : Gv → Gv
tail gnil = gnil
tail (gnum n) = gnil
tail (gcons a b) = b

abbrev IsPair : Gv → Type 0
IsPair gnil = ⊥
IsPair (gnum n) = ⊥
IsPair (gcons a b) = ⊤

-- ---- trees

abbrev mutual
  pub tree_stored : GroupTree → Gv
  tree_stored (Rolled shapes references) = gcons (shapes_code.code shapes) (references_stored references)

  pub reference_stored : TreeReference → Gv
  reference_stored (Own place) = gnum place
  reference_stored (Other tree place) = gcons (tree_stored tree) (gnum place)

  pub references_stored : TreeReferences → Gv
  references_stored NoMore = gnil
  references_stored (Then reference others) = gcons (reference_stored reference) (references_stored others)

mutual
  pub tree_once : (x y : GroupTree) → tree_stored x ≡ tree_stored y → x ≡ y
  tree_once (Rolled a rs) (Rolled b bs) p = λ i. Rolled (shapes_code.inj a b (ap head p) i) (references_once rs bs (ap tail p) i)

  pub reference_once : (x y : TreeReference) → reference_stored x ≡ reference_stored y → x ≡ y
  reference_once (Own m) (Own n) p = ap (λ g. Own (number g)) p
  reference_once (Own m) (Other t n) p = absurd (subst IsPair (sym p) tt)
  reference_once (Other s m) (Own n) p = absurd (subst IsPair p tt)
  reference_once (Other s m) (Other t n) p = λ i. Other (tree_once s t (ap head p) i) (number (tail (p i)))

  pub references_once : (x y : TreeReferences) → references_stored x ≡ references_stored y → x ≡ y
  references_once NoMore NoMore p = refl
  references_once NoMore (Then b bs) p = absurd (subst IsPair (sym p) tt)
  references_once (Then a rs) NoMore p = absurd (subst IsPair p tt)
  references_once (Then a rs) (Then b bs) p = λ i. Then (reference_once a b (ap head p) i) (references_once rs bs (ap tail p) i)

abbrev pub tree_code : Coded GroupTree
tree_code = record { code = tree_stored; inj = tree_once }

abbrev pub def_type_code : Coded DefType
def_type_code = code_by (GroupTree × ℕ) (coded× tree_code coded_ℕ) (λ type. (type.tree, type.place)) (λ p. record { tree = p.0; place = p.1 }) (λ _. refl)
