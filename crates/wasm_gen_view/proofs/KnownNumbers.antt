-- The next group of a valid module is numbered as a validator knows it.
use Rattle.std.proofs.Common.{◌≡◌, ◌⊎◌, inl, inr, Bool, true, false, ◌&&◌, ℕ, zero, suc, ◌+◌, ◌-◌, ◌<◌, ◌≤◌, List, [], ◌∷◌, ◌++◌, map, length, slice_get, nat_eq, nat_lt, Option, Some, None, option_map, if◌then◌else◌, refl, sym, ap, subst, ◌∙◌, arith, append_assoc, length-append}
use Rattle.std.proofs.lemmas.Bool.Decides.{nat_tests}
use Rattle.std.proofs.lemmas.List.{append-nil, length-map}
use Rattle.std.proofs.lemmas.List.Concat.{flat_map-cons}
use Rattle.std.proofs.lemmas.Option.{slice_get-map, slice_get_within}
use Rattle.std.specs.List.{AllByRecursion, range_with_len}
use Rattle.std.specs.Option.{unwrap_or}
use Rattle.std.specs.Prelude.{leb}
use Rattle.wasm_spec.specs.Features.{Features, needs_type_canonicalization}
use Rattle.wasm_spec.specs.Groups.{AreWellFormedFrom, KeepGroupRules, KeepsGroupRules}
use Rattle.wasm_spec.specs.Syntax.{members}
use Rattle.wasm_spec.specs.Trees.{AreDistinct, DefType, GroupTree, TreeReference, no_type, opened, places_of, reference_of, reference_to, roll, seen_from, tree_of, type_at, types_after, types_from, unrolled}
use Rattle.wasm_spec.specs.Trees as trees
use Rattle.wasm_spec.specs.TypeReferences.{group_refs, sub_map, sub_refs, subs_map, subs_refs}
use Rattle.wasm_spec.specs.Types as spec
use Rattle.wasm_spec.proofs.GroupTrees.{length-places_of, opened-roll}
use Rattle.wasm_spec.proofs.Places.{all_get, get_cases, get_left, get_right, get_some}
use Rattle.wasm_spec.proofs.SectionTypes.{rules_in_range, types_from_more}
use Rattle.wasm_spec.proofs.TypeMaps.{map-map, same_subs, subs_map-subs_map, subs_refs-map}
use Rattle.wasmparser_module_types.specs.ModuleTypes.{AreIds, AreKnownTypes, IsIdOf, KnownTypes, stands_for}
use Rattle.wasmparser_types.specs.Index.{Index, Module, RecGroup, Id, number_of}
use Rattle.wasmparser_validator.specs.TypeGroups.{AreOfGroups}
use Rattle.wasm_gen_view.specs.KnownNumbers.{AreNumberedSoFar, HasIds}
use Rattle.wasm_gen_view.specs.KnownReferences.{AreIdsOfGroup, id_reference, number_in, numbered_at, referred, sub_type_at, no_sub_type, with_first_supertype, first_alone}
use Rattle.wasm_gen_view.specs.Numbers.{IsNumbered}
use Rattle.wasm_gen_view.specs.TypeNumbers.{AreNumbersOf, places_from}
use Rattle.wasm_gen_view.specs.Views.{IsWithin, tree_at, tree_reference, type_in}
use Rattle.wasm_gen_view.specs.declared.types.TypePlace.{TypePlace}
use Rattle.wasm_gen_view.specs.declared.types.TypeReference.{TypeReference}
use Rattle.wasm_gen_view.specs.declared.types.TypeReference.TheVariants.{Own, Other}
use Rattle.wasm_gen_view.proofs.KnownGroups.{range_count, range_there, type_in_group}
use Rattle.wasm_gen_view.proofs.PlainGroups.{plain_group}
use Rattle.wasm_gen_view.proofs.NumberLaws.{IsNext, all_append, one_more, same_places, there}
use Rattle.wasm_gen_view.proofs.SameTrees.{numbered as tree_number}

-- ---- the next group

pub record IsNextGroup (features : Features) (before : List DefType) (section : List DefType) (type : DefType) : Type 0 where
  pub group : spec.RecGroup ℕ
  pub m : spec.SubType ℕ
  pub ms : List (spec.SubType ℕ)
  pub others : List (spec.RecGroup ℕ)
  pub members_are : members group ≡ m ∷ ms
  pub keeps : KeepsGroupRules features before group
  pub rules : KeepGroupRules features (types_after before group) others
  pub whole : types_from (types_after before group) others ≡ section
  pub type_is : type ≡ record { tree = tree_of before group; place = 0 }

pub next_group : (features : Features) (before : List DefType) (rest : List (spec.RecGroup ℕ)) (section : List DefType) (type : DefType) → KeepGroupRules features before rest
    → types_from before rest ≡ section → slice_get section (length before) ≡ Some type → IsNextGroup features before section type
next_group features before [] section type rules whole at =
    absurd (let lt = slice_get_within before (length before) type (ap (λ ts. slice_get ts (length before)) whole ∙ at) in omega (arith, lt))
next_group features before (g ∷ gs) section type rules whole at = by (members g) refl (next_group features before gs section type)
  where
    by : (ms : List (spec.SubType ℕ)) → members g ≡ ms → (KeepGroupRules features before gs → types_from before gs ≡ section → slice_get section (length before) ≡ Some type → IsNextGroup features before section type)
        → IsNextGroup features before section type
    by [] e next =
        let same : types_after before g ≡ before = ap (λ ms. before ++ places_of (tree_of before g) 0 ms) e ∙ append-nil before in
        next (subst (λ ts. KeepGroupRules features ts gs) same rules.1) (ap (λ ts. types_from ts gs) (sym same) ∙ whole) at
    by (m ∷ ms) e next =
        let more = types_from_more gs (types_after before g) in
        let tree = tree_of before g in
        let all : section ≡ before ++ ((record { tree = tree; place = 0 } ∷ places_of tree 1 ms) ++ more.0) =
        sym whole ∙ more.1 ∙ ap (λ ms. (before ++ places_of tree 0 ms) ++ more.0) e ∙ append_assoc before (record { tree = tree; place = 0 } ∷ places_of tree 1 ms) more.0 in
        let zero_more : length before ≡ length before + 0 = omega arith in
        let here : slice_get section (length before) ≡ Some (record { tree = tree; place = 0 }) =
        (λ j. slice_get (all j) (zero_more j)) ∙ get_right before ((record { tree = tree; place = 0 } ∷ places_of tree 1 ms) ++ more.0) 0 in
        let both : Some type ≡ Some (record { tree = tree; place = 0 }) = sym at ∙ here in
        record { group = g; m = m; ms = ms; others = gs; members_are = e; keeps = rules.0; rules = rules.1; whole = whole; type_is = cc }

-- ---- numbers among others

kept_number : (old new : List GroupTree) (tree : GroupTree) (number : ℕ) → IsNumbered tree old number new → (n : ℕ) (t : GroupTree) → slice_get old n ≡ Some t → slice_get new n ≡ Some t
kept_number old new tree number (inl (at, same)) n t e = ap (λ ts. slice_get ts n) same ∙ e
kept_number old new tree number (inr (none, is, same)) n t e = ap (λ ts. slice_get ts n) same ∙ left
  where
    left : slice_get (old ++ tree ∷ []) n ≡ Some t
    left = get_left old (tree ∷ []) n (slice_get_within old n t e) ∙ e

its_number : (old new : List GroupTree) (tree : GroupTree) (number : ℕ) → IsNumbered tree old number new → slice_get new number ≡ Some tree
its_number old new tree number (inl (at, same)) = ap (λ ts. slice_get ts number) same ∙ at
its_number old new tree number (inr (none, is, same)) =
    let e : number ≡ length old + 0 = omega (arith, is) in (λ j. slice_get (same j) (e j)) ∙ get_right old (tree ∷ []) 0

old_or_new : (old new : List GroupTree) (tree : GroupTree) (number : ℕ) → IsNumbered tree old number new → (n : ℕ) (t : GroupTree) → slice_get new n ≡ Some t
    → (slice_get old n ≡ Some t) ⊎ ((t ≡ tree) × (n ≡ number))
old_or_new old new tree number (inl (at, same)) n t e = inl (ap (λ ts. slice_get ts n) (sym same) ∙ e)
old_or_new old new tree number (inr (none, is, same)) n t e = by (get_cases old (tree ∷ []) n t (ap (λ ts. slice_get ts n) (sym same) ∙ e))
  where
    only : (k : ℕ) → slice_get (tree ∷ []) k ≡ Some t → (t ≡ tree) × (k ≡ 0)
    only zero e = (cc, refl)
    only (suc k) e = absurd cc

    by : (slice_get old n ≡ Some t) ⊎ ((k : ℕ) × (n ≡ length old + k) × (slice_get (tree ∷ []) k ≡ Some t)) → (slice_get old n ≡ Some t) ⊎ ((t ≡ tree) × (n ≡ number))
    by (inl at) = inl at
    by (inr at) = let it = only at.0 at.2 in inr (it.0, omega (arith, is, at.1, it.1))

-- ---- supertypes

few_well_formed : (types : List DefType) (index : ℕ) (ms : List (spec.SubType ℕ)) → AreWellFormedFrom types index ms → AllByRecursion (λ (type : spec.SubType ℕ). length type.supertypes ≤ 1) ms
few_well_formed types index [] h = tt
few_well_formed types index (m ∷ ms) h =
    (omega (arith, length-map m.supertypes (type_at types), h.0.extends.at_most_one), few_well_formed types (suc index) ms h.1)

few_mapped : {R S : Type 0} (f : R → S) (xs : List (spec.SubType R)) → AllByRecursion (λ (type : spec.SubType R). length type.supertypes ≤ 1) xs
    → AllByRecursion (λ (type : spec.SubType S). length type.supertypes ≤ 1) (subs_map f xs)
few_mapped f [] h = tt
few_mapped f (x ∷ xs) h = (omega (arith, length-map x.supertypes f, h.0), few_mapped f xs h.1)

few_same : {R S T : Type 0} (f : R → T) (g : S → T) (x : spec.SubType R) (y : spec.SubType S) → sub_map f x ≡ sub_map g y → length x.supertypes ≤ 1 → length y.supertypes ≤ 1
few_same f g x y e h =
    let same : length (map f x.supertypes) ≡ length (map g y.supertypes) = ap (λ (t : spec.SubType _). length t.supertypes) e in
    omega (arith, same, length-map x.supertypes f, length-map y.supertypes g, h)

few_all : {R S T : Type 0} (f : R → T) (g : S → T) (xs : List (spec.SubType R)) (ys : List (spec.SubType S)) → subs_map f xs ≡ subs_map g ys
    → AllByRecursion (λ (type : spec.SubType R). length type.supertypes ≤ 1) xs → AllByRecursion (λ (type : spec.SubType S). length type.supertypes ≤ 1) ys
few_all f g xs [] e h = tt
few_all f g [] (y ∷ ys) e h = absurd cc
few_all f g (x ∷ xs) (y ∷ ys) e h =
    let head : sub_map f x ≡ sub_map g y = cc in
    let tail : map (sub_map f) xs ≡ map (sub_map g) ys = cc in
    (few_same f g x y head h.0, few_all f g xs ys tail h.1)

alone : {A : Type 0} (xs : List A) → length xs ≤ 1 → first_alone xs ≡ xs
alone [] h = refl
alone (x ∷ []) h = refl
alone (x ∷ y ∷ xs) h = absurd (omega (arith, h))

all_alone : {R : Type 0} (xs : List (spec.SubType R)) → AllByRecursion (λ (type : spec.SubType R). length type.supertypes ≤ 1) xs → map with_first_supertype xs ≡ xs
all_alone [] h = refl
all_alone (x ∷ xs) h =
    let head : with_first_supertype x ≡ x = ap (λ s. record x { supertypes = s }) (alone x.supertypes h.0) in
    rw (head, all_alone xs h.1)

-- ---- types by ids

type_there : (types : List DefType) (index : ℕ) → index < length types → slice_get types index ≡ Some (type_at types index)
type_there types index lt = let (type, at) = get_some types index lt in at ∙ ap Some (sym (ap (λ q. unwrap_or q no_type) at))

-- the sub types of the ids of a group stand for those of its tree
module _ (types : KnownTypes) (known : AreKnownTypes types) (tree : GroupTree) where
  sub_there : (id : ℕ) → id < length types.interned → slice_get types.sub_types id ≡ Some (sub_type_at types id)
  sub_there id lt = let (sub, at) = get_some types.sub_types id (omega (arith, lt, known.count)) in at ∙ ap Some (sym (ap (λ q. unwrap_or q no_sub_type) at))

  seen_subs : (start : ℕ) (xs : List (spec.SubType TreeReference)) (first count : ℕ) → ((j : ℕ) → slice_get (opened tree) (start + j) ≡ slice_get xs j) → first + count ≤ length types.interned
      → map (type_at types.interned) (range_with_len first count) ≡ places_of tree start xs → subs_map (seen_from tree) xs ≡ subs_map (stands_for types) (map (sub_type_at types) (range_with_len first count))
  seen_subs start [] first zero same few e = refl
  seen_subs start [] first (suc count) same few e = absurd cc
  seen_subs start (x ∷ xs) first zero same few e = absurd cc
  seen_subs start (x ∷ xs) first (suc count) same few e =
      let head : type_at types.interned first ≡ record { tree = tree; place = start } = cc in
      let tail : map (type_at types.interned) (range_with_len (first + 1) count) ≡ places_of tree (suc start) xs = cc in
      let none_more : start ≡ start + 0 = omega arith in
      let here : slice_get (opened tree) start ≡ Some x = ap (slice_get (opened tree)) none_more ∙ same 0 in
      let meant : unrolled (type_at types.interned first) ≡ Some (sub_map (stands_for types) (sub_type_at types first)) = (known.unrolled first (sub_type_at types first) (sub_there first (omega (arith, few)))).0 in
      let seen : unrolled (type_at types.interned first) ≡ Some (sub_map (seen_from tree) x) = ap unrolled head ∙ ap (option_map (sub_map (seen_from tree))) here in
      let both : Some (sub_map (seen_from tree) x) ≡ Some (sub_map (stands_for types) (sub_type_at types first)) = sym seen ∙ meant in
      let one : sub_map (seen_from tree) x ≡ sub_map (stands_for types) (sub_type_at types first) = cc in
      let rest = seen_subs (suc start) xs (first + 1) count (λ j. let next : suc start + j ≡ start + suc j = omega arith in ap (slice_get (opened tree)) next ∙ same (suc j)) (omega (arith, few)) tail in
      (λ j. one j ∷ rest j)

  subs_ids : (first count : ℕ) → first + count ≤ length types.interned → AllByRecursion (IsIdOf types.interned) (subs_refs (map (sub_type_at types) (range_with_len first count)))
  subs_ids first zero few = tt
  subs_ids first (suc count) few =
      all_append (IsIdOf types.interned) (sub_refs (sub_type_at types first)) (subs_refs (map (sub_type_at types) (range_with_len (first + 1) count)))
      (known.unrolled first (sub_type_at types first) (sub_there first (omega (arith, few)))).1 (subs_ids (first + 1) count (omega (arith, few)))

-- ---- the next group is numbered

module _ (types : KnownTypes) (known : AreKnownTypes types) (section : List DefType) (numbered : List (List (spec.SubType TypeReference))) (places : List TypePlace) (numbers : List (ℕ × ℕ))
    (so_far : AreNumberedSoFar types section numbered places numbers) (id first count : ℕ) (group : AreIdsOfGroup types.interned id first count)
    (here : slice_get section (length places) ≡ Some (type_at types.interned id)) where
  pub length_is : length places ≡ length so_far.before
  length_is = sym (length-map places (type_in so_far.trees)) ∙ ap length so_far.are.types

  abbrev next : IsNextGroup types.features so_far.before section (type_at types.interned id)
  next = next_group types.features so_far.before so_far.rest section (type_at types.interned id) so_far.rules so_far.whole (ap (slice_get section) (sym length_is) ∙ here)

  abbrev tree : GroupTree
  tree = tree_of so_far.before next.group

  abbrev ids : List ℕ
  ids = range_with_len first count

  tree_is : (type_at types.interned id).tree ≡ tree
  tree_is = ap (λ (t : DefType). t.tree) next.type_is

  first_is : first ≡ id
  first_is = let place : (type_at types.interned id).place ≡ 0 = ap (λ (t : DefType). t.place) next.type_is in omega (arith, group.place, place)

  first_type : type_at types.interned first ≡ record { tree = tree; place = 0 }
  first_type = ap (type_at types.interned) first_is ∙ next.type_is

  whole : map (type_at types.interned) ids ≡ places_of tree 0 (opened tree)
  whole = subst (λ (t : GroupTree). map (type_at types.interned) ids ≡ places_of t 0 (opened t)) tree_is group.whole

  opened_is : opened tree ≡ subs_map (reference_of so_far.before) (members next.group)
  opened_is = opened-roll (subs_map (reference_of so_far.before) (members next.group))

  count_is : count ≡ length (next.m ∷ next.ms)
  count_is =
      let a : length (map (type_at types.interned) ids) ≡ length (places_of tree 0 (opened tree)) = ap length whole in
      omega (arith, a, length-map ids (type_at types.interned), range_count first count, length-places_of tree 0 (opened tree), ap length opened_is, length-map (members next.group) (sub_map (reference_of so_far.before)), ap length next.members_are)

  -- ---- what goes on

  module _ (number : ℕ) (new : List (List (spec.SubType TypeReference))) (added : IsNext so_far.before so_far.trees numbered places so_far.are tree next.m next.ms number new) (others : List (ℕ × ℕ))
      (named : number_in others first ≡ Some number) (kept : (f n : ℕ) → number_in numbers f ≡ Some n → number_in others f ≡ Some n)
      (old : (f n : ℕ) → number_in others f ≡ Some n → (number_in numbers f ≡ Some n) ⊎ ((f ≡ first) × (n ≡ number))) where
    right : (f n : ℕ) → number_in others f ≡ Some n → slice_get added.trees n ≡ Some (type_at types.interned f).tree
    right f n e = by (old f n e)
      where
        by : (number_in numbers f ≡ Some n) ⊎ ((f ≡ first) × (n ≡ number)) → slice_get added.trees n ≡ Some (type_at types.interned f).tree
        by (inl at) = kept_number so_far.trees added.trees tree number added.numbered n (type_at types.interned f).tree (so_far.right f n at)
        by (inr is) =
            let it : (type_at types.interned f).tree ≡ tree = ap (λ i. (type_at types.interned i).tree) is.0 ∙ ap (λ (t : DefType). t.tree) first_type in
            ap (slice_get added.trees) is.1 ∙ its_number so_far.trees added.trees tree number added.numbered ∙ ap Some (sym it)

    have_ids : needs_type_canonicalization types.features ≡ true → (n : ℕ) (t : GroupTree) → slice_get added.trees n ≡ Some t → HasIds types.interned others n t
    have_ids canonical n t e = by (old_or_new so_far.trees added.trees tree number added.numbered n t e)
      where
        by : (slice_get so_far.trees n ≡ Some t) ⊎ ((t ≡ tree) × (n ≡ number)) → HasIds types.interned others n t
        by (inl at) = let it = so_far.there canonical n t at in record { first = it.first; count = it.count; named = kept it.first n it.named; whole = it.whole; known = it.known }
        by (inr is) = record {
          first = first;
          count = count;
          named = named ∙ ap Some (sym is.1);
          whole = subst (λ (t : GroupTree). map (type_at types.interned) ids ≡ places_of t 0 (opened t)) (sym is.0) whole;
          known = group.known;
        }

    pub goes_on : AreNumberedSoFar types section new (places ++ places_from number 0 (range_with_len 0 count)) others
    goes_on =
        let types_are : so_far.before ++ places_of tree 0 (next.m ∷ next.ms) ≡ types_after so_far.before next.group = ap (λ ms. so_far.before ++ places_of tree 0 ms) (sym next.members_are) in
        let places_are = same_places number 0 (next.m ∷ next.ms) (range_with_len 0 count) (sym count_is ∙ sym (range_count 0 count)) in
        record {
          before = types_after so_far.before next.group;
          trees = added.trees;
          rest = next.others;
          are = subst (λ ps. AreNumbersOf (types_after so_far.before next.group) added.trees new (places ++ ps)) places_are
              (subst (λ ts. AreNumbersOf ts added.trees new (places ++ places_from number 0 (next.m ∷ next.ms))) types_are added.are);
          rules = next.rules;
          whole = next.whole;
          right = right;
          there = have_ids;
        }

  -- ---- a group that has a number

  pub known_goes_on : (number : ℕ) → number_in numbers first ≡ Some number → AreNumberedSoFar types section numbered (places ++ places_from number 0 (range_with_len 0 count)) numbers
  known_goes_on number named =
      let is : slice_get so_far.trees number ≡ Some tree = so_far.right first number named ∙ ap Some (ap (λ (t : DefType). t.tree) first_type) in
      goes_on number numbered (there so_far.before so_far.trees numbered places so_far.are tree next.m next.ms number is) numbers named (λ f n e. e) (λ f n e. inl e)

  -- ---- a group that has none

  module _ (unnamed : number_in numbers first ≡ None) where
    abbrev reference : Index → TypeReference
    reference = λ index. id_reference types.interned numbers first count (number_of index)

    abbrev subs : List (spec.SubType Index)
    subs = map (sub_type_at types) ids

    -- a reference goes to a type of the group, or to an earlier tree
    abbrev IsGood : TreeReference → Type 0
    IsGood (trees.Own place) = place < count
    IsGood (trees.Other t place) = (n : ℕ) × (slice_get so_far.trees n ≡ Some t)

    good_at : (found : Option DefType) (index : ℕ) → slice_get so_far.before index ≡ found → index < length so_far.before + length (members next.group) → IsGood (reference_to found (index - length so_far.before))
    good_at (Some type) index e lt = tree_number [] so_far.trees so_far.before so_far.are.first index type e
    good_at None index e lt = omega (arith, lt, count_is, ap length next.members_are, past so_far.before index e)
      where
        past : (ts : List DefType) (i : ℕ) → slice_get ts i ≡ None → length ts ≤ i
        past [] i e = omega arith
        past (t ∷ ts) zero e = absurd cc
        past (t ∷ ts) (suc i) e = omega (arith, past ts i e)

    all_good : (indexes : List ℕ) → AllByRecursion (λ index. index < length so_far.before + length (members next.group)) indexes → AllByRecursion IsGood (map (reference_of so_far.before) indexes)
    all_good [] h = tt
    all_good (index ∷ indexes) h = (good_at (slice_get so_far.before index) index refl h.0, all_good indexes h.1)

    module _ (canonical : needs_type_canonicalization types.features ≡ true) where
      distinct : AreDistinct types.interned
      distinct = known.distinct canonical

      one_id : (a b : ℕ) → a < length types.interned → b < length types.interned → type_at types.interned a ≡ type_at types.interned b → a ≡ b
      one_id a b lt also e = distinct a b (type_at types.interned b) (type_there types.interned a lt ∙ ap Some e) (type_there types.interned b also)

      own_type : (place : ℕ) → place < count → type_at types.interned (first + place) ≡ record { tree = tree; place = place }
      own_type place lt = type_in_group types.interned tree ids whole place (first + place) (range_there first count place lt)

      abbrev IsMeant : TreeReference → ℕ → Type 0
      IsMeant r id = (tree_reference so_far.trees (id_reference types.interned numbers first count id) ≡ r) × IsWithin (length so_far.trees) (id_reference types.interned numbers first count id)

      own_meant : (place id : ℕ) → place < count → id ≡ first + place → IsMeant (trees.Own place) id
      own_meant place id lt is =
          let above : leb first id ≡ true = grind (arith, nat_tests) in
          let below : nat_lt (id - first) count ≡ true = grind (arith, nat_tests) in
          let place_is : id - first ≡ place = omega (arith, is) in
          let it : id_reference types.interned numbers first count id ≡ Own place = rw (above, below) (ap Own place_is) in
          rw it (refl, tt)

      not_own : (t : GroupTree) (n : ℕ) → slice_get so_far.trees n ≡ Some t → t ≡ tree → ⊥
      not_own t n at same =
          let it = so_far.there canonical n t at in
          let some : 0 < length (opened tree) = omega (arith, count_is, ap length (sym whole), length-places_of tree 0 (opened tree), length-map ids (type_at types.interned), range_count first count) in
          let its_count = ap length it.whole in
          let more : 0 < it.count = omega (arith, its_count, length-map (range_with_len it.first it.count) (type_at types.interned), range_count it.first it.count, length-places_of t 0 (opened t), ap (λ u. length (opened u)) same, some) in
          let zero_more : it.first + 0 ≡ it.first = omega arith in
          let its_type : type_at types.interned (it.first + 0) ≡ record { tree = t; place = 0 } = type_in_group types.interned t (range_with_len it.first it.count) it.whole 0 (it.first + 0) (range_there it.first it.count 0 more) in
          let equal : type_at types.interned it.first ≡ type_at types.interned first = ap (type_at types.interned) (sym zero_more) ∙ its_type ∙ ap (λ u. record { tree = u; place = 0 }) same ∙ sym first_type in
          let one = one_id it.first first (omega (arith, it.known, more)) (omega (arith, group.known, count_is)) equal in
          let no : None ≡ Some n = sym unnamed ∙ ap (number_in numbers) (sym one) ∙ it.named in
          cc

      other_meant : (t : GroupTree) (n place id : ℕ) → slice_get so_far.trees n ≡ Some t → id < length types.interned → type_at types.interned id ≡ record { tree = t; place = place } → IsMeant (trees.Other t place) id
      other_meant t n place id at lt is = by (leb first id && nat_lt (id - first) count) refl
        where
          it : HasIds types.interned numbers n t
          it = so_far.there canonical n t at

          place_there : place < length (opened t)
          place_there = by_sub (slice_get (opened t) place) refl
            where
              meant : unrolled (type_at types.interned id) ≡ Some (sub_map (stands_for types) (sub_type_at types id))
              meant = (known.unrolled id (sub_type_at types id) (sub_there types known tree id lt)).0

              by_sub : (found : Option (spec.SubType TreeReference)) → slice_get (opened t) place ≡ found → place < length (opened t)
              by_sub (Some sub) e = slice_get_within (opened t) place sub e
              by_sub None e = absurd (let no : None ≡ Some (sub_map (stands_for types) (sub_type_at types id)) = sym (ap (option_map (sub_map (seen_from t))) e) ∙ sym (ap unrolled is) ∙ meant in cc)

          its_place : place < it.count
          its_place = omega (arith, place_there, ap length it.whole, length-map (range_with_len it.first it.count) (type_at types.interned), range_count it.first it.count, length-places_of t 0 (opened t))

          same_id : id ≡ it.first + place
          same_id =
              one_id id (it.first + place) lt (omega (arith, it.known, its_place))
              (is ∙ sym (type_in_group types.interned t (range_with_len it.first it.count) it.whole place (it.first + place) (range_there it.first it.count place its_place)))

          place_is : (type_at types.interned id).place ≡ place
          place_is = ap (λ (u : DefType). u.place) is

          start_is : id - (type_at types.interned id).place ≡ it.first
          start_is = omega (arith, place_is, same_id)

          by : (b : Bool) → (leb first id && nat_lt (id - first) count) ≡ b → IsMeant (trees.Other t place) id
          by true e =
              let lies : first ≤ id = grind (arith, nat_tests) in
              let below : id - first < count = grind (arith, nat_tests) in
              let again : first + (id - first) ≡ id = omega (arith, lies) in
              let equal : record { tree = t; place = place } ≡ record { tree = tree; place = id - first } = sym is ∙ ap (type_at types.interned) (sym again) ∙ own_type (id - first) below in
              absurd (not_own t n at (ap (λ (u : DefType). u.tree) equal))
          by false e =
              let number_is : number_in numbers (id - (type_at types.interned id).place) ≡ Some n = ap (number_in numbers) start_is ∙ it.named in
              let ref_is : id_reference types.interned numbers first count id ≡ Other (record { group = n; place = place }) = rw (e, number_is, place_is) refl in
              let tree_there : tree_at so_far.trees n ≡ t = ap (λ q. unwrap_or q no_type.tree) at in
              rw ref_is (ap (λ u. trees.Other u place) tree_there, slice_get_within so_far.trees n t at)

      one_meant : (r : TreeReference) (index : Index) → seen_from tree r ≡ stands_for types index → IsGood r → IsIdOf types.interned index → IsMeant r (number_of index)
      one_meant r (Module n) e good is = absurd is
      one_meant r (RecGroup n) e good is = absurd is
      one_meant (trees.Own place) (Id id) e good is = own_meant place id good (one_id id (first + place) is (omega (arith, group.known, good)) (sym e ∙ sym (own_type place good)))
      one_meant (trees.Other t place) (Id id) e good is = other_meant t good.0 place id good.1 is (sym e)

    abbrev AreMeant : List TreeReference → List Index → Type 0
    AreMeant rs indexes = (map (λ index. tree_reference so_far.trees (reference index)) indexes ≡ rs) × AllByRecursion (IsWithin (length so_far.trees)) (map reference indexes)

    all_meant : needs_type_canonicalization types.features ≡ true → (rs : List TreeReference) (indexes : List Index) → map (seen_from tree) rs ≡ map (stands_for types) indexes → AllByRecursion IsGood rs
        → AllByRecursion (IsIdOf types.interned) indexes → AreMeant rs indexes
    all_meant canonical [] [] e good are = (refl, tt)
    all_meant canonical [] (index ∷ indexes) e good are = absurd cc
    all_meant canonical (r ∷ rs) [] e good are = absurd cc
    all_meant canonical (r ∷ rs) (index ∷ indexes) e good are =
        let head : seen_from tree r ≡ stands_for types index = cc in
        let tail : map (seen_from tree) rs ≡ map (stands_for types) indexes = cc in
        let one = one_meant canonical r index head good.0 are.0 in
        let rest = all_meant canonical rs indexes tail good.1 are.1 in
        ((λ j. one.0 j ∷ rest.0 j), (one.1, rest.1))

    seen : subs_map (seen_from tree) (opened tree) ≡ subs_map (stands_for types) subs
    seen = seen_subs types known tree 0 (opened tree) first count (λ j. let e : 0 + j ≡ j = omega arith in ap (slice_get (opened tree)) e) group.known whole

    seen_refs : map (seen_from tree) (subs_refs (opened tree)) ≡ map (stands_for types) (subs_refs subs)
    seen_refs = sym (subs_refs-map (seen_from tree) (opened tree)) ∙ ap subs_refs seen ∙ subs_refs-map (stands_for types) subs

    refs_are : subs_refs (opened tree) ≡ map (reference_of so_far.before) (subs_refs (members next.group))
    refs_are = ap subs_refs opened_is ∙ subs_refs-map (reference_of so_far.before) (members next.group)

    group_refs_are : (g : spec.RecGroup ℕ) → group_refs g ≡ subs_refs (members g)
    group_refs_are (spec.Single type) = sym (append-nil (sub_refs type))
    group_refs_are (spec.Group ms) = refl

    goods : AllByRecursion IsGood (subs_refs (opened tree))
    goods =
        let below = rules_in_range types.features so_far.before next.group next.keeps in
        subst (AllByRecursion IsGood) (sym refs_are)
        (all_good (subs_refs (members next.group)) (subst (AllByRecursion (λ index. index < length so_far.before + length (members next.group))) (group_refs_are next.group) below))

    nothing : (ms : List (spec.SubType ℕ)) → AllByRecursion (λ (type : spec.SubType ℕ). sub_refs type ≡ []) ms → subs_refs ms ≡ []
    nothing [] h = refl
    nothing (m ∷ ms) h = rw (flat_map-cons sub_refs m ms, h.0, nothing ms h.1) refl

    nil_before : {X Y : Type 0} (f : X → Y) (xs : List X) → map f xs ≡ [] → xs ≡ []
    nil_before f [] e = refl
    nil_before f (x ∷ xs) e = absurd cc

    meant : AreMeant (subs_refs (opened tree)) (subs_refs subs)
    meant = by (needs_type_canonicalization types.features) refl
      where
        by : (b : Bool) → needs_type_canonicalization types.features ≡ b → AreMeant (subs_refs (opened tree)) (subs_refs subs)
        by true e = all_meant e (subs_refs (opened tree)) (subs_refs subs) seen_refs goods (subs_ids types known tree first count group.known)
        by false e =
            let no_refs : subs_refs (opened tree) ≡ [] = refs_are ∙ ap (map (reference_of so_far.before)) (nothing (members next.group) (plain_group types.features e next.group next.keeps.allowed)) in
            let none : subs_refs subs ≡ [] = nil_before (stands_for types) (subs_refs subs) (sym seen_refs ∙ ap (map (seen_from tree)) no_refs) in
            rw (no_refs, none) (refl, tt)

    referred_all : (xs : List ℕ) → map (referred types numbers first count) xs ≡ subs_map reference (map with_first_supertype (map (sub_type_at types) xs))
    referred_all [] = refl
    referred_all (x ∷ xs) = ap (λ ys. referred types numbers first count x ∷ ys) (referred_all xs)

    few : AllByRecursion (λ (type : spec.SubType Index). length type.supertypes ≤ 1) subs
    few =
        let written = few_well_formed (types_after so_far.before next.group) (length so_far.before) (members next.group) next.keeps.each in
        few_all (seen_from tree) (stands_for types) (opened tree) subs seen
        (subst (AllByRecursion (λ (type : spec.SubType TreeReference). length type.supertypes ≤ 1)) (sym opened_is) (few_mapped (reference_of so_far.before) (members next.group) written))

    built_is : map (referred types numbers first count) ids ≡ subs_map reference subs
    built_is = referred_all ids ∙ ap (subs_map reference) (all_alone subs few)

    meant_group : subs_map (tree_reference so_far.trees) (map (referred types numbers first count) ids) ≡ opened tree
    meant_group =
        let both : Index → TreeReference = λ index. tree_reference so_far.trees (reference index) in
        ap (subs_map (tree_reference so_far.trees)) built_is ∙ subs_map-subs_map (tree_reference so_far.trees) reference subs
        ∙ same_subs (trees.Own 0) (subs_map both subs) (opened tree)
        (subs_map-subs_map (λ _. tt {0}) both subs ∙ sym (subs_map-subs_map (λ _. tt {0}) (stands_for types) subs) ∙ ap (subs_map (λ _. tt {0})) (sym seen) ∙ subs_map-subs_map (λ _. tt {0}) (seen_from tree) (opened tree))
        (subs_refs-map both subs ∙ meant.0)

    within : AllByRecursion (IsWithin (length so_far.trees)) (subs_refs (map (referred types numbers first count) ids))
    within = subst (AllByRecursion (IsWithin (length so_far.trees))) (sym (subs_refs-map reference subs) ∙ ap subs_refs (sym built_is)) meant.1

    pub new_goes_on : (number : ℕ) (new : List (List (spec.SubType TypeReference))) (others : List (ℕ × ℕ)) → IsNumbered (map (referred types numbers first count) ids) numbered number new
        → ((other : ℕ) → number_in others other ≡ (if nat_eq first other then Some number else number_in numbers other))
        → AreNumberedSoFar types section new (places ++ places_from number 0 (range_with_len 0 count)) others
    new_goes_on number new others is clause =
        goes_on number new (one_more so_far.before so_far.trees numbered places so_far.are tree next.m next.ms (map (referred types numbers first count) ids) (ap roll opened_is) meant_group within number new is) others
        (let same : nat_eq first first ≡ true = grind (arith, nat_tests) in clause first ∙ (rw same refl)) kept old
      where
        kept_by : (f n : ℕ) (b : Bool) → nat_eq first f ≡ b → number_in numbers f ≡ Some n → number_in others f ≡ Some n
        kept_by f n true e at =
            let one : first ≡ f = grind (arith, nat_tests) in
            absurd (let no : None ≡ Some n = sym unnamed ∙ ap (number_in numbers) one ∙ at in cc)
        kept_by f n false e at = clause f ∙ (rw e at)

        kept : (f n : ℕ) → number_in numbers f ≡ Some n → number_in others f ≡ Some n
        kept f n at = kept_by f n (nat_eq first f) refl at

        old_by : (f n : ℕ) (b : Bool) → nat_eq first f ≡ b → number_in others f ≡ Some n → (number_in numbers f ≡ Some n) ⊎ ((f ≡ first) × (n ≡ number))
        old_by f n true e at =
            let one : first ≡ f = grind (arith, nat_tests) in
            let is : (if nat_eq first f then Some number else number_in numbers f) ≡ Some number = rw e refl in
            let both : Some n ≡ Some number = sym at ∙ clause f ∙ is in
            inr (sym one, cc)
        old_by f n false e at =
            let is : (if nat_eq first f then Some number else number_in numbers f) ≡ number_in numbers f = rw e refl in
            inl (sym is ∙ sym (clause f) ∙ at)

        old : (f n : ℕ) → number_in others f ≡ Some n → (number_in numbers f ≡ Some n) ⊎ ((f ≡ first) × (n ≡ number))
        old f n at = old_by f n (nat_eq first f) refl at

-- ---- the first and the last

pub none_numbered : (types : KnownTypes) (section : List DefType) → AreOfGroups types.features section → (numbered : List (List (spec.SubType TypeReference))) (places : List TypePlace)
    → AreNumbersOf [] [] numbered places → AreNumberedSoFar types section numbered places []
none_numbered types section of numbered places are = record {
  before = [];
  trees = [];
  rest = of.groups;
  are = are;
  rules = of.rules;
  whole = sym of.types;
  right = λ first number e. absurd cc;
  there = λ canonical number tree e. absurd cc;
}

pub all_numbered : (types : KnownTypes) (section : List DefType) (numbered : List (List (spec.SubType TypeReference))) (places : List TypePlace) (numbers : List (ℕ × ℕ))
    → AreNumberedSoFar types section numbered places numbers → length section ≤ length places → (trees : List GroupTree) × AreNumbersOf section trees numbered places
all_numbered types section numbered places numbers so_far many =
    let more = types_from_more so_far.rest so_far.before in
    let count : length places ≡ length so_far.before = sym (length-map places (type_in so_far.trees)) ∙ ap length so_far.are.types in
    let parts : section ≡ so_far.before ++ more.0 = sym so_far.whole ∙ more.1 in
    let none : length more.0 ≡ 0 = omega (arith, many, count, ap length parts, length-append so_far.before more.0) in
    (so_far.trees, subst (λ ts. AreNumbersOf ts so_far.trees numbered places) (sym (parts ∙ ap (λ ts. so_far.before ++ ts) (nil more.0 none) ∙ append-nil so_far.before)) so_far.are)
  where
    nil : (ts : List DefType) → length ts ≡ 0 → ts ≡ []
    nil [] e = refl
    nil (t ∷ ts) e = absurd (omega (arith, e))
