-- One more group is numbered.
use Rattle.std.proofs.Common.{◌≡◌, ◌⊎◌, inl, inr, ℕ, zero, suc, ◌+◌, ◌-◌, ◌<◌, List, [], ◌∷◌, ◌++◌, map, drop, length, slice_get, Option, Some, None, option_map, refl, sym, ap, subst, ◌∙◌, arith, length-append}
use Rattle.std.proofs.lemmas.List.{append-nil, length-map, map-append}
use Rattle.std.proofs.lemmas.Option.{slice_get-map, slice_get_within}
use Rattle.std.specs.List.{AllByRecursion}
use Rattle.std.specs.Option.{unwrap_or}
use Rattle.wasm_spec.specs.Syntax.{members}
use Rattle.wasm_spec.specs.Trees.{DefType, GroupTree, TreeReference, joined, no_type, opened, places_of, reference_of, roll, tree_of, types_after}
use Rattle.wasm_spec.specs.Trees as trees
use Rattle.wasm_spec.specs.TypeReferences.{subs_map, subs_refs}
use Rattle.wasm_spec.specs.Types as spec
use Rattle.wasm_spec.proofs.GroupTrees.{all_each, opened-roll}
use Rattle.wasm_spec.proofs.Places.{all_get, get_cases, get_left, get_right, get_some}
use Rattle.wasm_spec.proofs.TypeMaps.{same_subs, subs_map-subs_map, subs_map_agree, subs_refs-map}
use Rattle.wasm_gen_view.specs.Numbers.{IsNumbered}
use Rattle.wasm_gen_view.specs.TypeNumbers.{AreNumbersOf, numbered_reference, places_from, reference_to}
use Rattle.wasm_gen_view.specs.Views.{AreFirst, IsWithin, tree_at, tree_reference, type_in}
use Rattle.wasm_gen_view.specs.declared.types.TypePlace.{TypePlace}
use Rattle.wasm_gen_view.specs.declared.types.TypeReference.{TypeReference}
use Rattle.wasm_gen_view.specs.declared.types.TypeReference.TheVariants.{Own, Other}

-- ---- lists

get_one : {X : Type 0} (xs : List X) (x : X) → slice_get (xs ++ x ∷ []) (length xs) ≡ Some x
get_one xs x = let e : length xs + 0 ≡ length xs = omega arith in subst (λ n. slice_get (xs ++ x ∷ []) n ≡ Some x) e (get_right xs (x ∷ []) 0)

pub all_append : {X : Type 0} (P : X → Type 0) (xs ys : List X) → AllByRecursion P xs → AllByRecursion P ys → AllByRecursion P (xs ++ ys)
all_append P [] ys h k = k
all_append P (x ∷ xs) ys h k = (h.0, all_append P xs ys h.1 k)

-- items that f takes to one item are one, where they have P
pub maps_back : {X Y : Type 0} (P : X → Type 0) (f : X → Y) → ((a b : X) → P a → P b → f a ≡ f b → a ≡ b) → (xs ys : List X) → AllByRecursion P xs → AllByRecursion P ys
    → map f xs ≡ map f ys → xs ≡ ys
maps_back P f one [] [] h k e = refl
maps_back P f one [] (y ∷ ys) h k e = cc
maps_back P f one (x ∷ xs) [] h k e = cc
maps_back P f one (x ∷ xs) (y ∷ ys) h k e =
    let head : f x ≡ f y = cc in
    let tail : map f xs ≡ map f ys = cc in
    rw (one x y h.0 k.0 head, maps_back P f one xs ys h.1 k.1 tail)

-- so are groups, where all their references have P
pub subs_back : {R S : Type 0} (d : R) (P : R → Type 0) (f : R → S) → ((a b : R) → P a → P b → f a ≡ f b → a ≡ b) → (xs ys : List (spec.SubType R))
    → AllByRecursion P (subs_refs xs) → AllByRecursion P (subs_refs ys) → subs_map f xs ≡ subs_map f ys → xs ≡ ys
subs_back d P f one xs ys h k e =
    same_subs d xs ys (sym (subs_map-subs_map (λ _. tt {0}) f xs) ∙ ap (subs_map (λ _. tt {0})) e ∙ subs_map-subs_map (λ _. tt {0}) f ys)
    (maps_back P f one (subs_refs xs) (subs_refs ys) h k (sym (subs_refs-map f xs) ∙ ap subs_refs e ∙ subs_refs-map f ys))

-- ---- trees by number

first_append : (before mid all : List GroupTree) (xs ys : List DefType) → AreFirst before xs mid → AreFirst mid ys all → AreFirst before (xs ++ ys) all
first_append before mid all [] ys h k = subst (λ ts. AreFirst ts ys all) h k
first_append before mid all (x ∷ xs) ys (inl (n, at, rest)) k = inl (n, at, first_append before mid all xs ys rest k)
first_append before mid all (x ∷ xs) ys (inr (none, rest)) k = inr (none, first_append (before ++ x.tree ∷ []) mid all xs ys rest k)

-- types of a tree that is there add none
first_there : {X : Type 0} (all : List GroupTree) (tree : GroupTree) (n : ℕ) → slice_get all n ≡ Some tree → (place : ℕ) (xs : List X) → AreFirst all (places_of tree place xs) all
first_there all tree n at place [] = refl
first_there all tree n at place (x ∷ xs) = inl (n, at, first_there all tree n at (suc place) xs)

tree_there : (all : List GroupTree) (tree : GroupTree) (n : ℕ) → slice_get all n ≡ Some tree → tree_at all n ≡ tree
tree_there all tree n at = ap (λ t. unwrap_or t no_type.tree) at

tree_kept : (all more : List GroupTree) (n : ℕ) → n < length all → tree_at (all ++ more) n ≡ tree_at all n
tree_kept all more n lt = ap (λ t. unwrap_or t no_type.tree) (get_left all more n lt)

places_there : {X : Type 0} (all : List GroupTree) (tree : GroupTree) (n : ℕ) → tree_at all n ≡ tree → (place : ℕ) (xs : List X)
    → map (type_in all) (places_from n place xs) ≡ places_of tree place xs
places_there all tree n is place [] = refl
places_there all tree n is place (x ∷ xs) =
    let head : type_in all (record { group = n; place = place }) ≡ record { tree = tree; place = place } = ap (λ t. record { tree = t; place = place }) is in
    rw (head, places_there all tree n is (suc place) xs)

places_within : {X : Type 0} (count n : ℕ) → n < count → (place : ℕ) (xs : List X) → AllByRecursion (λ (p : TypePlace). p.group < count) (places_from n place xs)
places_within count n lt place [] = tt
places_within count n lt place (x ∷ xs) = (lt, places_within count n lt (suc place) xs)

reference_kept : (all more : List GroupTree) (r : TypeReference) → IsWithin (length all) r → tree_reference (all ++ more) r ≡ tree_reference all r
reference_kept all more (Own place) h = refl
reference_kept all more (Other place) h = ap (λ t. trees.Other t place.place) (tree_kept all more place.group h)

-- references to distinct trees are told apart
pub references_back : (all : List GroupTree) → ((i j : ℕ) (tree : GroupTree) → slice_get all i ≡ Some tree → slice_get all j ≡ Some tree → i ≡ j)
    → (a b : TypeReference) → IsWithin (length all) a → IsWithin (length all) b → tree_reference all a ≡ tree_reference all b → a ≡ b
references_back all distinct (Own p) (Own q) h k e = cc
references_back all distinct (Own p) (Other q) h k e = cc
references_back all distinct (Other p) (Own q) h k e = cc
references_back all distinct (Other p) (Other q) h k e =
    let (x, at) = get_some all p.group h in
    let (y, also) = get_some all q.group k in
    let tree : tree_at all p.group ≡ tree_at all q.group = cc in
    let place : p.place ≡ q.place = cc in
    let same : x ≡ y = sym (tree_there all x p.group at) ∙ tree ∙ tree_there all y q.group also in
    let group : p.group ≡ q.group = distinct p.group q.group x at (also ∙ ap Some (sym same)) in
    ap Other (λ j. record { group = group j; place = place j })

-- ---- one more group

-- types of this tree have places, and the tree a number
module _ (types : List DefType) (all : List GroupTree) (groups : List (List (spec.SubType TypeReference))) (places : List TypePlace) (it : AreNumbersOf types all groups places)
    (tree : GroupTree) (m : spec.SubType ℕ) (ms : List (spec.SubType ℕ)) where
  abbrev pub new_types : List DefType
  new_types = types ++ places_of tree 0 (m ∷ ms)

  pub record IsNext (number : ℕ) (new : List (List (spec.SubType TypeReference))) : Type 0 where
    pub trees : List GroupTree
    pub are : AreNumbersOf new_types trees new (places ++ places_from number 0 (m ∷ ms))
    pub numbered : IsNumbered tree all number trees

  -- a tree that has this number keeps it
  pub there : (number : ℕ) → slice_get all number ≡ Some tree → IsNext number groups
  there number here = record {
    trees = all;
    are = record {
      first = first_append [] all all types (places_of tree 0 (m ∷ ms)) it.first (first_there all tree number here 0 (m ∷ ms));
      distinct = it.distinct;
      rolled = it.rolled;
      groups = it.groups;
      within = it.within;
      types = map-append (type_in all) places (places_from number 0 (m ∷ ms)) ∙ (λ j. it.types j ++ places_there all tree number (tree_there all tree number here) 0 (m ∷ ms) j);
      inside = all_append _ places (places_from number 0 (m ∷ ms)) it.inside (places_within (length all) number (slice_get_within all number tree here) 0 (m ∷ ms));
    };
    numbered = inl (here, refl);
  }

  module _ (numbered : List (spec.SubType TypeReference)) (rolled : roll (opened tree) ≡ tree) (meant_group : subs_map (tree_reference all) numbered ≡ opened tree)
      (within : AllByRecursion (IsWithin (length all)) (subs_refs numbered)) where
    -- the tree of a group that is there
    group_at : (n : ℕ) (g : List (spec.SubType TypeReference)) → slice_get groups n ≡ Some g → subs_map (tree_reference all) g ≡ opened tree → slice_get all n ≡ Some tree
    group_at n g at is = by (slice_get all n) refl
      where
        opened_there : option_map opened (slice_get all n) ≡ Some (opened tree)
        opened_there = sym (slice_get-map opened all n) ∙ ap (λ gs. slice_get gs n) (sym it.groups) ∙ slice_get-map (subs_map (tree_reference all)) groups n ∙ ap (option_map (subs_map (tree_reference all))) at ∙ ap Some is

        by : (found : Option GroupTree) → slice_get all n ≡ found → slice_get all n ≡ Some tree
        by None e = absurd (let no : None ≡ Some (opened tree) = sym (ap (option_map opened) e) ∙ opened_there in cc)
        by (Some t) e =
            let same : opened t ≡ opened tree = let both : Some (opened t) ≡ Some (opened tree) = sym (ap (option_map opened) e) ∙ opened_there in cc in
            let one : t ≡ tree = sym (all_get (λ t. roll (opened t) ≡ t) all it.rolled n t e) ∙ ap roll same ∙ rolled in
            e ∙ ap Some one

    trees_count : length groups ≡ length all
    trees_count = sym (length-map groups (subs_map (tree_reference all))) ∙ ap length it.groups ∙ length-map all opened

    module _ (none : (other : ℕ) → slice_get groups other ≡ Some numbered → ⊥) where
      absent : (n : ℕ) → slice_get all n ≡ Some tree → ⊥
      absent n at =
          let lt : n < length groups = omega (arith, slice_get_within all n tree at, trees_count) in
          let (g, there) = get_some groups n lt in
          let is : subs_map (tree_reference all) g ≡ opened tree =
          let both : Some (subs_map (tree_reference all) g) ≡ Some (opened tree) =
          ap (option_map (subs_map (tree_reference all))) (sym there) ∙ sym (slice_get-map (subs_map (tree_reference all)) groups n) ∙ ap (λ gs. slice_get gs n) it.groups ∙ slice_get-map opened all n ∙ ap (option_map opened) at in
          cc in
          let one : g ≡ numbered = subs_back (Own 0) (IsWithin (length all)) (tree_reference all) (references_back all it.distinct) g numbered
          (all_get (λ group. AllByRecursion (IsWithin (length all)) (subs_refs group)) groups it.within n g there) within (is ∙ sym meant_group) in
          none n (there ∙ ap Some one)

      abbrev pub more : List GroupTree
      more = all ++ tree ∷ []

      more_count : length more ≡ suc (length all)
      more_count = omega (arith, length-append all (tree ∷ []))

      kept_group : (g : List (spec.SubType TypeReference)) → AllByRecursion (IsWithin (length all)) (subs_refs g) → subs_map (tree_reference more) g ≡ subs_map (tree_reference all) g
      kept_group g h = subs_map_agree (trees.Own 0) (tree_reference more) (tree_reference all) g (all_each (IsWithin (length all)) (λ r. tree_reference more r ≡ tree_reference all r) (reference_kept all (tree ∷ [])) (subs_refs g) h)

      kept_groups : (gs : List (List (spec.SubType TypeReference))) → AllByRecursion (λ g. AllByRecursion (IsWithin (length all)) (subs_refs g)) gs → map (subs_map (tree_reference more)) gs ≡ map (subs_map (tree_reference all)) gs
      kept_groups [] h = refl
      kept_groups (g ∷ gs) h = rw (kept_group g h.0, kept_groups gs h.1)

      kept_places : (ps : List TypePlace) → AllByRecursion (λ (p : TypePlace). p.group < length all) ps → map (type_in more) ps ≡ map (type_in all) ps
      kept_places [] h = refl
      kept_places (p ∷ ps) h =
          let head : type_in more p ≡ type_in all p = ap (λ t. record { tree = t; place = p.place }) (tree_kept all (tree ∷ []) p.group h.0) in
          rw (head, kept_places ps h.1)

      wider : (r : TypeReference) → IsWithin (length all) r → IsWithin (length more) r
      wider (Own place) h = tt
      wider (Other place) h = omega (arith, h, more_count)

      last : slice_get more (length all) ≡ Some tree
      last = get_one all tree

      new_first : AreFirst all (places_of tree 0 (m ∷ ms)) more
      new_first = inr (absent, first_there more tree (length all) last 1 ms)

      one_place : (i j : ℕ) (t : GroupTree) → slice_get more i ≡ Some t → slice_get more j ≡ Some t → i ≡ j
      one_place i j t a b = by (get_cases all (tree ∷ []) i t a) (get_cases all (tree ∷ []) j t b)
        where
          only : (k : ℕ) (t : GroupTree) → slice_get (tree ∷ []) k ≡ Some t → t ≡ tree
          only zero t e = cc
          only (suc k) t e = cc

          lone : (k : ℕ) (t : GroupTree) → slice_get (tree ∷ []) k ≡ Some t → k ≡ 0
          lone zero t e = refl
          lone (suc k) t e = cc

          by : (slice_get all i ≡ Some t) ⊎ ((k : ℕ) × (i ≡ length all + k) × (slice_get (tree ∷ []) k ≡ Some t)) → (slice_get all j ≡ Some t) ⊎ ((k : ℕ) × (j ≡ length all + k) × (slice_get (tree ∷ []) k ≡ Some t)) → i ≡ j
          by (inl x) (inl y) = it.distinct i j t x y
          by (inl x) (inr y) = absurd (absent i (x ∙ ap Some (only y.0 t y.2)))
          by (inr x) (inl y) = absurd (absent j (y ∙ ap Some (only x.0 t x.2)))
          by (inr x) (inr y) = let a = x.1 in let b = y.1 in let k = lone x.0 t x.2 in let l = lone y.0 t y.2 in omega (arith, a, b, k, l)

      behind : (number : ℕ) → number ≡ length groups → IsNext number (groups ++ numbered ∷ [])
      behind number is =
          let place : number ≡ length all = is ∙ trees_count in
          record {
            trees = more;
            are = record {
              first = first_append [] all more types (places_of tree 0 (m ∷ ms)) it.first new_first;
              distinct = one_place;
              rolled = all_append _ all (tree ∷ []) it.rolled (rolled, tt);
              groups = map-append (subs_map (tree_reference more)) groups (numbered ∷ []) ∙ (λ j. (kept_groups groups it.within ∙ it.groups) j ++ (kept_group numbered within ∙ meant_group) j ∷ []) ∙ sym (map-append opened all (tree ∷ []));
              within = all_append _ groups (numbered ∷ [])
                  (all_each _ _ (λ g h. all_each (IsWithin (length all)) (IsWithin (length more)) wider (subs_refs g) h) groups it.within)
                  (all_each (IsWithin (length all)) (IsWithin (length more)) wider (subs_refs numbered) within, tt);
              types = map-append (type_in more) places (places_from number 0 (m ∷ ms))
                  ∙ (λ j. (kept_places places it.inside ∙ it.types) j ++ places_there more tree number (ap (tree_at more) place ∙ tree_there more tree (length all) last) 0 (m ∷ ms) j);
              inside = all_append _ places (places_from number 0 (m ∷ ms))
                  (all_each (λ (p : TypePlace). p.group < length all) (λ (p : TypePlace). p.group < length more) (λ p h. omega (arith, h, more_count)) places it.inside)
                  (places_within (length more) number (omega (arith, place, more_count)) 0 (m ∷ ms));
            };
            numbered = inr (absent, place, refl);
          }

    -- a group that means this tree gets its number
    pub one_more : (number : ℕ) (new : List (List (spec.SubType TypeReference))) → IsNumbered numbered groups number new → IsNext number new
    one_more number new (inl (at, same)) = subst (IsNext number) (sym same) (there number (group_at number numbered at meant_group))
    one_more number new (inr (none, is, same)) = subst (IsNext number) (sym same) (behind none number is)

-- ---- a group that is written

module _ (types : List DefType) (all : List GroupTree) (groups : List (List (spec.SubType TypeReference))) (places : List TypePlace) (it : AreNumbersOf types all groups places)
    (group : spec.RecGroup ℕ) where
  abbrev tree : GroupTree
  tree = tree_of types group

  abbrev numbered : List (spec.SubType TypeReference)
  numbered = subs_map (numbered_reference places) (members group)

  count : length places ≡ length types
  count = sym (length-map places (type_in all)) ∙ ap length it.types

  meant_at : (found : Option TypePlace) (index : ℕ) → slice_get places index ≡ found → tree_reference all (reference_to None found (index - length places)) ≡ reference_of types index
  meant_at (Some place) index at =
      let there : slice_get types index ≡ Some (type_in all place) = ap (λ ts. slice_get ts index) (sym it.types) ∙ slice_get-map (type_in all) places index ∙ ap (option_map (type_in all)) at in
      ap (λ t. trees.reference_to t (index - length types)) (sym there)
  meant_at None index at =
      let past : slice_get types index ≡ None = ap (λ ts. slice_get ts index) (sym it.types) ∙ slice_get-map (type_in all) places index ∙ ap (option_map (type_in all)) at in
      ap (λ n. trees.Own (index - n)) count ∙ ap (λ t. trees.reference_to t (index - length types)) (sym past)

  meant : (index : ℕ) → tree_reference all (numbered_reference places index) ≡ reference_of types index
  meant index = meant_at (slice_get places index) index refl

  meant_group : subs_map (tree_reference all) numbered ≡ opened tree
  meant_group = subs_map-subs_map (tree_reference all) (numbered_reference places) (members group) ∙ ap (λ f. subs_map f (members group)) (λ j index. meant index j)
      ∙ sym (opened-roll (subs_map (reference_of types) (members group)))

  rolled : roll (opened tree) ≡ tree
  rolled = ap roll (opened-roll (subs_map (reference_of types) (members group)))

  within_at : (found : Option TypePlace) (index : ℕ) → slice_get places index ≡ found → IsWithin (length all) (reference_to None found (index - length places))
  within_at (Some place) index at = all_get (λ (p : TypePlace). p.group < length all) places it.inside index place at
  within_at None index at = tt

  each_within : (indexes : List ℕ) → AllByRecursion (IsWithin (length all)) (map (numbered_reference places) indexes)
  each_within [] = tt
  each_within (index ∷ indexes) = (within_at (slice_get places index) index refl, each_within indexes)

  within : AllByRecursion (IsWithin (length all)) (subs_refs numbered)
  within = subst (AllByRecursion (IsWithin (length all))) (sym (subs_refs-map (numbered_reference places) (members group))) (each_within (subs_refs (members group)))

  pub written_one : (m : spec.SubType ℕ) (ms : List (spec.SubType ℕ)) (number : ℕ) (new : List (List (spec.SubType TypeReference))) → IsNumbered numbered groups number new
      → IsNext types all groups places it tree m ms number new
  written_one m ms number new is = one_more types all groups places it tree m ms numbered rolled meant_group within number new is

-- places are those of as many items
pub same_places : {X Y : Type 0} (number place : ℕ) (xs : List X) (ys : List Y) → length xs ≡ length ys → places_from number place xs ≡ places_from number place ys
same_places number place [] [] e = refl
same_places number place [] (y ∷ ys) e = absurd (omega (arith, e))
same_places number place (x ∷ xs) [] e = absurd (omega (arith, e))
same_places number place (x ∷ xs) (y ∷ ys) e = rw (same_places number (suc place) xs ys (omega (arith, e)))

pub group_added : {X : Type 0} (f : X → spec.SubType ℕ) (xs : List X) (groups new : List (List (spec.SubType TypeReference))) (places : List TypePlace) (number : ℕ) → 0 < length xs
    → IsNumbered (subs_map (numbered_reference places) (map f xs)) groups number new
    → (before : List DefType) (group : spec.RecGroup ℕ) → members group ≡ map f xs → (trees : List GroupTree) → AreNumbersOf before trees groups places
    → (all : List GroupTree) × AreNumbersOf (types_after before group) all new (places ++ places_from number 0 xs)
group_added f [] groups new places number some it before group is trees h = absurd (omega (arith, some))
group_added f (x ∷ xs) groups new places number some it before group is trees h =
    let next = written_one before trees groups places h group (f x) (map f xs) number new (subst (λ ms. IsNumbered (subs_map (numbered_reference places) ms) groups number new) (sym is) it) in
    let types : before ++ places_of (tree_of before group) 0 (f x ∷ map f xs) ≡ types_after before group = ap (λ ms. before ++ places_of (tree_of before group) 0 ms) (sym is) in (
      next.trees,
      subst (λ ts. AreNumbersOf ts next.trees new (places ++ places_from number 0 (x ∷ xs))) types
          (subst (λ ps. AreNumbersOf (before ++ places_of (tree_of before group) 0 (f x ∷ map f xs)) next.trees new (places ++ ps)) (same_places number 0 (f x ∷ map f xs) (x ∷ xs) (omega (arith, length-map xs f))) next.are),
    )

pub none_added : {X : Type 0} (f : X → spec.SubType ℕ) (xs : List X) (groups : List (List (spec.SubType TypeReference))) (places : List TypePlace) → length xs ≡ 0
    → (before : List DefType) (group : spec.RecGroup ℕ) → members group ≡ map f xs → (trees : List GroupTree) → AreNumbersOf before trees groups places
    → (all : List GroupTree) × AreNumbersOf (types_after before group) all groups places
none_added f [] groups places none before group is trees h =
    let same : types_after before group ≡ before = ap (λ ms. before ++ places_of (tree_of before group) 0 ms) is ∙ append-nil before in
    (trees, subst (λ ts. AreNumbersOf ts trees groups places) (sym same) h)
none_added f (x ∷ xs) groups places none before group is trees h = absurd (omega (arith, none))

-- ---- the loop over places

step : {X : Type 0} (number at place : ℕ) (xs : List X) → place < length xs → places_from number at (drop place xs) ≡ record { group = number; place = at } ∷ places_from number (suc at) (drop (suc place) xs)
step number at place [] lt = absurd (omega (arith, lt))
step number at zero (x ∷ xs) lt = refl
step number at (suc place) (x ∷ xs) lt = step number at place xs (omega (arith, lt))

pub places_step : {X : Type 0} (number place : ℕ) (xs : List X) → place < length xs
    → places_from number place (drop place xs) ≡ record { group = number; place = place } ∷ places_from number (place + 1) (drop (place + 1) xs)
places_step number place xs lt = let next : place + 1 ≡ suc place = omega arith in rw next (step number place place xs lt)
