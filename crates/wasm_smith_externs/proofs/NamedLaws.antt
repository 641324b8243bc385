-- Names that are drawn, one after the other.
use Rattle.std.specs.Prelude.{bytes_eq}
use Rattle.std.proofs.Common.{◌≡◌, ℕ, true, false, List, [], ◌∷◌, ◌++◌, map, refl, ap, sym, ◌∙◌}
use Rattle.std.specs.List.{AllByRecursion, IsDistinct}
use Rattle.std.proofs.lemmas.Bool.{and_parts, false_from_ne_true}
use Rattle.std.proofs.lemmas.Slice.Eq.{bytes_eq-Decides}
use Rattle.wasm_spec.specs.Syntax.{ImportEntry, ImportItem, Import, CompactItems, CompactNames, imported_by}
use Rattle.wasm_spec.specs.Types.{ExternalType}
use Rattle.wasm_smith_externs.specs.Named.{Named, have_same_names, named, named_by, named_item, types_of}
use Rattle.wasm_smith_externs.specs.Names.{AreDrawnNames, StayUsed, is_used}
use Rattle.wasm_smith_externs.specs.declared.names.ImportNames.{ImportNames}

-- ---- lists

all_append : {A : Type 0} (P : A → Type 0) (xs ys : List A) → AllByRecursion P xs → AllByRecursion P ys → AllByRecursion P (xs ++ ys)
all_append P [] ys p q = q
all_append P (x ∷ xs) ys p q = (p.0, all_append P xs ys p.1 q)

all_imply : {A : Type 0} (P Q : A → Type 0) → ((x : A) → P x → Q x) → (xs : List A) → AllByRecursion P xs → AllByRecursion Q xs
all_imply P Q f [] all = tt
all_imply P Q f (x ∷ xs) all = (f x all.0, all_imply P Q f xs all.1)

pub none_distinct : IsDistinct have_same_names []
unfolding IsDistinct
none_distinct = tt

pub one_distinct : (x : Named) → IsDistinct have_same_names (x ∷ [])
unfolding IsDistinct
one_distinct x = (tt, tt)

distinct_append : (xs ys : List Named) → IsDistinct have_same_names xs → IsDistinct have_same_names ys → AllByRecursion (λ x. AllByRecursion (λ y. have_same_names x y ≡ false) ys) xs → IsDistinct have_same_names (xs ++ ys)
unfolding IsDistinct
distinct_append [] ys p q apart = q
distinct_append (x ∷ xs) ys p q apart = (all_append (λ y. have_same_names x y ≡ false) xs ys p.0 apart.0, distinct_append xs ys p.1 q apart.1)

-- ---- names

true_is_not_false : true ≡ false → ⊥
true_is_not_false e = cc

apart : (names : ImportNames) (x y : Named) → is_used names.used x.origin x.name ≡ true → is_used names.used y.origin y.name ≡ false → have_same_names x y ≡ false
apart names x y used unused =
    false_from_ne_true (have_same_names x y) (λ same.
    let parts = and_parts (bytes_eq x.origin y.origin) (bytes_eq x.name y.name) same in
    let origin : x.origin ≡ y.origin = (bytes_eq-Decides x.origin y.origin).0 parts.0 in
    let name : x.name ≡ y.name = (bytes_eq-Decides x.name y.name).0 parts.1 in
    let both : is_used names.used x.origin x.name ≡ is_used names.used y.origin y.name = ap (λ o. is_used names.used o x.name) origin ∙ ap (λ n. is_used names.used y.origin n) name in
    true_is_not_false (sym used ∙ both ∙ unused))

still_unused : (old new : ImportNames) → StayUsed old new → (x : Named) → is_used new.used x.origin x.name ≡ false → is_used old.used x.origin x.name ≡ false
still_unused old new stay x unused = false_from_ne_true (is_used old.used x.origin x.name) (λ used. true_is_not_false (sym (stay x.origin x.name used) ∙ unused))

pub no_names : (names : ImportNames) → AreDrawnNames names names []
no_names names = record { duplicates = refl; stay = λ origin name used. used; unused = λ _. tt; used = λ _. tt; distinct = λ _. none_distinct }

pub more_names : (a b d : ImportNames) (xs ys : List Named) → AreDrawnNames a b xs → AreDrawnNames b d ys → AreDrawnNames a d (xs ++ ys)
more_names a b d xs ys h g = record {
  duplicates = g.duplicates ∙ h.duplicates;
  stay = λ origin name used. g.stay origin name (h.stay origin name used);
  unused = λ e. all_append (λ x. is_used a.used x.origin x.name ≡ false) xs ys (h.unused e)
      (all_imply (λ x. is_used b.used x.origin x.name ≡ false) (λ x. is_used a.used x.origin x.name ≡ false) (still_unused a b h.stay) ys (g.unused (h.duplicates ∙ e)));
  used = λ e. all_append (λ x. is_used d.used x.origin x.name ≡ true) xs ys
      (all_imply (λ x. is_used b.used x.origin x.name ≡ true) (λ x. is_used d.used x.origin x.name ≡ true) (λ x used. g.stay x.origin x.name used) xs (h.used e)) (g.used (h.duplicates ∙ e));
  distinct = λ e. distinct_append xs ys (h.distinct e) (g.distinct (h.duplicates ∙ e))
      (all_imply (λ x. is_used b.used x.origin x.name ≡ true) (λ x. AllByRecursion (λ y. have_same_names x y ≡ false) ys)
      (λ x used. all_imply (λ y. is_used b.used y.origin y.name ≡ false) (λ y. have_same_names x y ≡ false) (λ y unused. apart b x y used unused) ys (g.unused (h.duplicates ∙ e))) xs (h.used e));
}

-- ---- entries

pub types_named : (entry : ImportEntry) → types_of (named_by entry) ≡ imported_by entry
types_named (Import origin name type) = refl
types_named (CompactItems origin items) = item_types origin items
  where
    item_types : (origin : List ℕ) (items : List ImportItem) → types_of (map (named_item origin) items) ≡ map (λ item. item.type) items
    item_types origin [] = refl
    item_types origin (item ∷ items) = ap (λ types. item.type ∷ types) (item_types origin items)
types_named (CompactNames origin type names) = name_types origin type names
  where
    name_types : (origin : List ℕ) (type : ExternalType ℕ) (names : List (List ℕ)) → types_of (map (named origin type) names) ≡ map (λ name. type) names
    name_types origin type [] = refl
    name_types origin type (name ∷ names) = ap (λ types. type ∷ types) (name_types origin type names)
