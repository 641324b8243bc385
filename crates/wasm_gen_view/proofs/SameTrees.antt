-- Trees by their numbers: a tree refers to earlier ones, so groups written by number say which trees they are.
use Rattle.std.proofs.Common.{◌≡◌, ◌⊎◌, inl, inr, ℕ, zero, suc, ◌+◌, ◌-◌, ◌<◌, ◌≤◌, List, [], ◌∷◌, ◌++◌, map, length, slice_get, Option, Some, None, option_map, refl, sym, ap, subst, ◌∙◌, arith}
use Rattle.std.proofs.lemmas.List.{length-map}
use Rattle.std.proofs.lemmas.Option.{slice_get-map, slice_get_within}
use Rattle.std.specs.List.{AllByRecursion}
use Rattle.std.specs.Option.{unwrap_or}
use Rattle.wasm_spec.specs.Syntax.{members}
use Rattle.wasm_spec.specs.Trees.{DefType, GroupTree, TreeReference, no_type, opened, places_of, reference_of, reference_to, roll, tree_of, types_after, types_from, types_of_group}
use Rattle.wasm_spec.specs.Trees as trees
use Rattle.wasm_spec.specs.TypeReferences.{subs_map, subs_refs}
use Rattle.wasm_spec.specs.Types as spec
use Rattle.wasm_spec.proofs.GroupTrees.{opened-roll}
use Rattle.wasm_spec.proofs.Places.{all_get, get_cases, get_left, get_some}
use Rattle.wasm_spec.proofs.SectionTypes.{types_from_more}
use Rattle.wasm_spec.proofs.TypeMaps.{subs_map_agree, subs_refs-map}
use Rattle.wasm_gen_view.specs.Views.{AreFirst, IsWithin, tree_at, tree_reference}
use Rattle.wasm_gen_view.specs.declared.types.TypePlace.{TypePlace}
use Rattle.wasm_gen_view.specs.declared.types.TypeReference.{TypeReference}
use Rattle.wasm_gen_view.specs.declared.types.TypeReference.TheVariants.{Own, Other}

-- ---- the first occurrences

pub first_one : (before : List GroupTree) (types : List DefType) (a b : List GroupTree) → AreFirst before types a → AreFirst before types b → a ≡ b
first_one before [] a b h k = h ∙ sym k
first_one before (x ∷ xs) a b (inl (n, at, h)) (inl (m, also, k)) = first_one before xs a b h k
first_one before (x ∷ xs) a b (inl (n, at, h)) (inr (none, k)) = absurd (none n at)
first_one before (x ∷ xs) a b (inr (none, h)) (inl (m, also, k)) = absurd (none m also)
first_one before (x ∷ xs) a b (inr (none, h)) (inr (nor, k)) = first_one (before ++ x.tree ∷ []) xs a b h k

first_split : (before all : List GroupTree) (xs ys : List DefType) → AreFirst before (xs ++ ys) all → (mid : List GroupTree) × AreFirst before xs mid × AreFirst mid ys all
first_split before all [] ys h = (before, refl, h)
first_split before all (x ∷ xs) ys (inl (n, at, h)) = let rest = first_split before all xs ys h in (rest.0, inl (n, at, rest.1), rest.2)
first_split before all (x ∷ xs) ys (inr (none, h)) = let rest = first_split (before ++ x.tree ∷ []) all xs ys h in (rest.0, inr (none, rest.1), rest.2)

abbrev pub AreDistinct : List GroupTree → Type 0
AreDistinct all = (i j : ℕ) (tree : GroupTree) → slice_get all i ≡ Some tree → slice_get all j ≡ Some tree → i ≡ j

one_more : (all : List GroupTree) (tree : GroupTree) → ((n : ℕ) → slice_get all n ≡ Some tree → ⊥) → AreDistinct all → AreDistinct (all ++ tree ∷ [])
one_more all tree none distinct i j t a b = by (get_cases all (tree ∷ []) i t a) (get_cases all (tree ∷ []) j t b)
  where
    only : (k : ℕ) → slice_get (tree ∷ []) k ≡ Some t → t ≡ tree
    only zero e = cc
    only (suc k) e = cc

    lone : (k : ℕ) → slice_get (tree ∷ []) k ≡ Some t → k ≡ 0
    lone zero e = refl
    lone (suc k) e = cc

    by : (slice_get all i ≡ Some t) ⊎ ((k : ℕ) × (i ≡ length all + k) × (slice_get (tree ∷ []) k ≡ Some t)) → (slice_get all j ≡ Some t) ⊎ ((k : ℕ) × (j ≡ length all + k) × (slice_get (tree ∷ []) k ≡ Some t)) → i ≡ j
    by (inl x) (inl y) = distinct i j t x y
    by (inl x) (inr y) = absurd (none i (x ∙ ap Some (only y.0 y.2)))
    by (inr x) (inl y) = absurd (none j (y ∙ ap Some (only x.0 x.2)))
    by (inr x) (inr y) = let a = x.1 in let b = y.1 in let k = lone x.0 x.2 in let l = lone y.0 y.2 in omega (arith, a, b, k, l)

first_distinct : (before all : List GroupTree) (types : List DefType) → AreDistinct before → AreFirst before types all → AreDistinct all
first_distinct before all [] distinct h = subst AreDistinct (sym h) distinct
first_distinct before all (x ∷ xs) distinct (inl (n, at, h)) = first_distinct before all xs distinct h
first_distinct before all (x ∷ xs) distinct (inr (none, h)) = first_distinct (before ++ x.tree ∷ []) all xs (one_more before x.tree none distinct) h

pub all_distinct : (all : List GroupTree) (types : List DefType) → AreFirst [] types all → AreDistinct all
all_distinct all types h = first_distinct [] all types (λ i j tree a b. cc) h

-- what is there stays there
kept : (before all : List GroupTree) (types : List DefType) → AreFirst before types all → (n : ℕ) (tree : GroupTree) → slice_get before n ≡ Some tree → slice_get all n ≡ Some tree
kept before all [] h n tree at = subst (λ ts. slice_get ts n ≡ Some tree) (sym h) at
kept before all (x ∷ xs) (inl (m, also, h)) n tree at = kept before all xs h n tree at
kept before all (x ∷ xs) (inr (none, h)) n tree at =
    kept (before ++ x.tree ∷ []) all xs h n tree (get_left before (x.tree ∷ []) n (slice_get_within before n tree at) ∙ at)

-- the tree of each type has a number
pub numbered : (before all : List GroupTree) (types : List DefType) → AreFirst before types all → (i : ℕ) (type : DefType) → slice_get types i ≡ Some type → (n : ℕ) × (slice_get all n ≡ Some type.tree)
numbered before all [] h i type at = absurd cc
numbered before all (x ∷ xs) (inl (m, also, h)) zero type at =
    let one : x ≡ type = cc in (m, subst (λ (t : DefType). slice_get all m ≡ Some t.tree) one (kept before all xs h m x.tree also))
numbered before all (x ∷ xs) (inl (m, also, h)) (suc i) type at = numbered before all xs h i type at
numbered before all (x ∷ xs) (inr (none, h)) zero type at =
    let one : x ≡ type = cc in
    (length before, subst (λ (t : DefType). slice_get all (length before) ≡ Some t.tree) one (kept (before ++ x.tree ∷ []) all xs h (length before) x.tree (last before x.tree)))
  where
    last : (xs : List GroupTree) (t : GroupTree) → slice_get (xs ++ t ∷ []) (length xs) ≡ Some t
    last [] t = refl
    last (y ∷ ys) t = last ys t
numbered before all (x ∷ xs) (inr (none, h)) (suc i) type at = numbered (before ++ x.tree ∷ []) all xs h i type at

-- ---- earlier trees

-- a reference goes to a tree before this number, or to the own group
abbrev GoesBack : List GroupTree → ℕ → TreeReference → Type 0
GoesBack all n (trees.Own place) = Unit {0}
GoesBack all n (trees.Other tree place) = (m : ℕ) × (m < n) × (slice_get all m ≡ Some tree)

-- each tree is rolled up, and refers to earlier ones
pub record AreEarlier (all : List GroupTree) : Type 0 where
  rolled : AllByRecursion (λ tree. roll (opened tree) ≡ tree) all
  back : (n : ℕ) (tree : GroupTree) → slice_get all n ≡ Some tree → AllByRecursion (GoesBack all n) (subs_refs (opened tree))

goes_on : (all more : List GroupTree) (n : ℕ) (r : TreeReference) → GoesBack all n r → GoesBack (all ++ more) n r
goes_on all more n (trees.Own place) h = tt
goes_on all more n (trees.Other tree place) h = (h.0, h.1, get_left all more h.0 (slice_get_within all h.0 tree h.2) ∙ h.2)

all_go_on : (all more : List GroupTree) (n : ℕ) (rs : List TreeReference) → AllByRecursion (GoesBack all n) rs → AllByRecursion (GoesBack (all ++ more) n) rs
all_go_on all more n [] h = tt
all_go_on all more n (r ∷ rs) h = (goes_on all more n r h.0, all_go_on all more n rs h.1)

module _ (before : List DefType) (mid : List GroupTree) (are : AreFirst [] before mid) (earlier : AreEarlier mid) (group : spec.RecGroup ℕ) where
  abbrev tree : GroupTree
  tree = tree_of before group

  one_back : (index : ℕ) → GoesBack (mid ++ tree ∷ []) (length mid) (reference_of before index)
  one_back index = by (slice_get before index) refl
    where
      by : (found : Option DefType) → slice_get before index ≡ found → GoesBack (mid ++ tree ∷ []) (length mid) (reference_to found (index - length before))
      by None e = tt
      by (Some type) e =
          let at = numbered [] mid before are index type e in
          let lt = slice_get_within mid at.0 type.tree at.1 in
          (at.0, lt, get_left mid (tree ∷ []) at.0 lt ∙ at.1)

  each_back : (indexes : List ℕ) → AllByRecursion (GoesBack (mid ++ tree ∷ []) (length mid)) (map (reference_of before) indexes)
  each_back [] = tt
  each_back (index ∷ indexes) = (one_back index, each_back indexes)

  new_back : AllByRecursion (GoesBack (mid ++ tree ∷ []) (length mid)) (subs_refs (opened tree))
  new_back = subst (AllByRecursion (GoesBack (mid ++ tree ∷ []) (length mid)))
      (sym (ap subs_refs (opened-roll (subs_map (reference_of before) (members group))) ∙ subs_refs-map (reference_of before) (members group))) (each_back (subs_refs (members group)))

  more_earlier : AreEarlier (mid ++ tree ∷ [])
  more_earlier = record {
    rolled = all_append mid earlier.rolled;
    back = λ n t at. by n t (get_cases mid (tree ∷ []) n t at);
  }
    where
      all_append : (ts : List GroupTree) → AllByRecursion (λ t. roll (opened t) ≡ t) ts → AllByRecursion (λ t. roll (opened t) ≡ t) (ts ++ tree ∷ [])
      all_append [] h = (ap roll (opened-roll (subs_map (reference_of before) (members group))), tt)
      all_append (t ∷ ts) h = (h.0, all_append ts h.1)

      last : (n k : ℕ) (t : GroupTree) → n ≡ length mid + k → slice_get (tree ∷ []) k ≡ Some t → AllByRecursion (GoesBack (mid ++ tree ∷ []) n) (subs_refs (opened t))
      last n zero t place at =
          let one : tree ≡ t = cc in
          let end : length mid ≡ n = omega (arith, place) in
          subst (λ (t : GroupTree). AllByRecursion (GoesBack (mid ++ tree ∷ []) n) (subs_refs (opened t))) one
          (subst (λ n. AllByRecursion (GoesBack (mid ++ tree ∷ []) n) (subs_refs (opened tree))) end new_back)
      last n (suc k) t place at = absurd cc

      by : (n : ℕ) (t : GroupTree) → (slice_get mid n ≡ Some t) ⊎ ((k : ℕ) × (n ≡ length mid + k) × (slice_get (tree ∷ []) k ≡ Some t)) → AllByRecursion (GoesBack (mid ++ tree ∷ []) n) (subs_refs (opened t))
      by n t (inl at) = all_go_on mid (tree ∷ []) n (subs_refs (opened t)) (earlier.back n t at)
      by n t (inr (k, place, at)) = last n k t place at

  -- the types of the group add its tree, or nothing
  there : (all : List GroupTree) (n : ℕ) → slice_get all n ≡ Some tree → (place : ℕ) (ms : List (spec.SubType ℕ)) (end : List GroupTree) → AreFirst all (places_of tree place ms) end → end ≡ all
  there all n at place [] end h = h
  there all n at place (m ∷ ms) end (inl (k, also, h)) = there all n at (suc place) ms end h
  there all n at place (m ∷ ms) end (inr (none, h)) = absurd (none n at)

  added : (ms : List (spec.SubType ℕ)) (end : List GroupTree) → AreFirst mid (places_of tree 0 ms) end → AreEarlier end
  added [] end h = subst AreEarlier (sym h) earlier
  added (m ∷ ms) end (inl (k, at, h)) = subst AreEarlier (sym (there mid k at 1 ms end h)) earlier
  added (m ∷ ms) end (inr (none, h)) = subst AreEarlier (sym (there (mid ++ tree ∷ []) (length mid) (last mid) 1 ms end h)) more_earlier
    where
      last : (ts : List GroupTree) → slice_get (ts ++ tree ∷ []) (length ts) ≡ Some tree
      last [] = refl
      last (t ∷ ts) = last ts

earlier_from : (groups : List (spec.RecGroup ℕ)) (before : List DefType) (mid all : List GroupTree) → AreFirst [] before mid → AreEarlier mid → AreFirst [] (types_from before groups) all → AreEarlier all
earlier_from [] before mid all are earlier h = subst AreEarlier (first_one [] before mid all are h) earlier
earlier_from (group ∷ groups) before mid all are earlier h =
    let (more, same) = types_from_more groups (types_after before group) in
    let (next, first, rest) = first_split [] all (types_after before group) more (subst (λ ts. AreFirst [] ts all) same h) in
    let (so_far, those, behind) = first_split [] next before (types_of_group before group) first in
    let one : so_far ≡ mid = first_one [] before so_far mid those are in
    earlier_from groups (types_after before group) next all first
    (added before mid are earlier group (members group) next (subst (λ (m : List GroupTree). AreFirst m (types_of_group before group) next) one behind)) h

pub section_earlier : (groups : List (spec.RecGroup ℕ)) (all : List GroupTree) → AreFirst [] (types_from [] groups) all → AreEarlier all
section_earlier groups all h = earlier_from groups [] [] all refl (record { rolled = tt; back = λ n tree at. cc }) h

-- ---- groups by number say which trees they are

module _ (groups : List (List (spec.SubType TypeReference))) (a b : List GroupTree) (are_a : map (subs_map (tree_reference a)) groups ≡ map opened a) (are_b : map (subs_map (tree_reference b)) groups ≡ map opened b)
    (distinct : AreDistinct a) (earlier_a : AreEarlier a) (earlier_b : AreEarlier b) (within : AllByRecursion (λ group. AllByRecursion (IsWithin (length a)) (subs_refs group)) groups) where
  count_a : length a ≡ length groups
  count_a = sym (length-map a opened) ∙ sym (ap length are_a) ∙ length-map groups (subs_map (tree_reference a))

  count_b : length b ≡ length groups
  count_b = sym (length-map b opened) ∙ sym (ap length are_b) ∙ length-map groups (subs_map (tree_reference b))

  opened_at : (ts : List GroupTree) → map (subs_map (tree_reference ts)) groups ≡ map opened ts → (n : ℕ) (tree : GroupTree) (group : List (spec.SubType TypeReference)) → slice_get ts n ≡ Some tree → slice_get groups n ≡ Some group
      → subs_map (tree_reference ts) group ≡ opened tree
  opened_at ts are n tree group at also =
      let both : Some (subs_map (tree_reference ts) group) ≡ Some (opened tree) =
      sym (slice_get-map (subs_map (tree_reference ts)) groups n ∙ ap (option_map (subs_map (tree_reference ts))) also) ∙ ap (λ gs. slice_get gs n) are ∙ slice_get-map opened ts n ∙ ap (option_map opened) at in
      cc

  tree_is : (ts : List GroupTree) (n : ℕ) (t : GroupTree) → slice_get ts n ≡ Some t → tree_at ts n ≡ t
  tree_is ts n t at = ap (λ t. unwrap_or t no_type.tree) at

  -- a reference that goes back goes to a smaller number
  smaller : (n : ℕ) (place : TypePlace) → place.group < length a → GoesBack a n (tree_reference a (Other place)) → place.group < n
  smaller n place lt (m, less, at) =
      let (tree, here) = get_some a place.group lt in
      let same : tree_at a place.group ≡ tree = tree_is a place.group tree here in
      let one : place.group ≡ m = distinct place.group m tree here (at ∙ ap Some same) in
      omega (arith, less, one)

  -- with the same trees before a number, references of its group have one meaning
  same_references : (n : ℕ) → ((m : ℕ) → m < n → tree_at a m ≡ tree_at b m) → (rs : List TypeReference) → AllByRecursion (IsWithin (length a)) rs → AllByRecursion (GoesBack a n) (map (tree_reference a) rs)
      → AllByRecursion (λ r. tree_reference a r ≡ tree_reference b r) rs
  same_references n before [] h k = tt
  same_references n before (Own place ∷ rs) h k = (refl, same_references n before rs h.1 k.1)
  same_references n before (Other place ∷ rs) h k =
      (ap (λ t. trees.Other t place.place) (before place.group (smaller n place h.0 k.0)), same_references n before rs h.1 k.1)

  same_tree : (n : ℕ) → n < length groups → ((m : ℕ) → m < n → tree_at a m ≡ tree_at b m) → tree_at a n ≡ tree_at b n
  same_tree n lt before =
      let (group, here) = get_some groups n lt in
      let (x, at_a) = get_some a n (omega (arith, lt, count_a)) in
      let (y, at_b) = get_some b n (omega (arith, lt, count_b)) in
      let in_a = opened_at a are_a n x group at_a here in
      let in_b = opened_at b are_b n y group at_b here in
      let inside = all_get (λ group. AllByRecursion (IsWithin (length a)) (subs_refs group)) groups within n group here in
      let back : AllByRecursion (GoesBack a n) (map (tree_reference a) (subs_refs group)) =
      subst (AllByRecursion (GoesBack a n)) (sym (ap subs_refs in_a) ∙ subs_refs-map (tree_reference a) group) (earlier_a.back n x at_a) in
      let agree = subs_map_agree (trees.Own 0) (tree_reference a) (tree_reference b) group (same_references n before (subs_refs group) inside back) in
      let one : opened x ≡ opened y = sym in_a ∙ agree ∙ in_b in
      tree_is a n x at_a ∙ sym (all_get (λ t. roll (opened t) ≡ t) a earlier_a.rolled n x at_a) ∙ ap roll one ∙ all_get (λ t. roll (opened t) ≡ t) b earlier_b.rolled n y at_b ∙ sym (tree_is b n y at_b)

  all_before : (n : ℕ) → (m : ℕ) → m < n → n ≤ length groups → tree_at a m ≡ tree_at b m
  all_before zero m lt most = absurd (omega (arith, lt))
  all_before (suc n) m lt most = by (either m n) (λ k less. all_before n k less (omega (arith, most)))
    where
      either : (m n : ℕ) → (m < n) ⊎ (n ≤ m)
      either m n = grind arith

      by : (m < n) ⊎ (n ≤ m) → ((k : ℕ) → k < n → tree_at a k ≡ tree_at b k) → tree_at a m ≡ tree_at b m
      by (inl less) before = before m less
      by (inr past) before =
          let one : n ≡ m = omega (arith, lt, past) in
          subst (λ k. tree_at a k ≡ tree_at b k) one (same_tree n (omega (arith, most)) before)

  same_lists : (xs ys : List GroupTree) → length xs ≡ length ys → ((m : ℕ) → m < length xs → tree_at xs m ≡ tree_at ys m) → xs ≡ ys
  same_lists [] [] e h = refl
  same_lists [] (y ∷ ys) e h = absurd (omega (arith, e))
  same_lists (x ∷ xs) [] e h = absurd (omega (arith, e))
  same_lists (x ∷ xs) (y ∷ ys) e h =
      let head : x ≡ y = h 0 (omega arith) in
      rw (head, same_lists xs ys (omega (arith, e)) (λ m lt. h (suc m) (omega (arith, lt))))

  pub same_trees : a ≡ b
  same_trees = same_lists a b (count_a ∙ sym count_b) (λ m lt. all_before (length groups) m (omega (arith, lt, count_a)) (omega arith))
