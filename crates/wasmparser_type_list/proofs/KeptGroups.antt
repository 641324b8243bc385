-- The groups of tables that agree, as groups of a type section: their sub types, what these refer to, and their canonical forms.
use Rattle.std.proofs.Common.{◌≡◌, ℕ, suc, ◌+◌, ◌-◌, ◌<◌, ◌≤◌, Bool, List, [], ◌∷◌, ◌++◌, length, map, take, drop, ap, sym, ◌∙◌, subst, arith, Option, Some, None, IfSome}
use Rattle.std.proofs.lemmas.Grind.{flat_map-append}
use Rattle.std.proofs.lemmas.List.{drop-drop, drop_all, length-drop, length-map, length-take, map-append, take-append-drop}
use Rattle.std.proofs.lemmas.Option.{slice_get_within}
use Rattle.std.specs.List.{slice_get, AllByRecursion, flat_map}
use Rattle.std.specs.declared.ops.Range.{Range}
use Rattle.wasm_spec.specs.Syntax.{members}
use Rattle.wasm_spec.specs.TypeReferences.{sub_map, subs_map, sub_refs, subs_refs}
use Rattle.wasm_spec.specs.Trees.{AreInRange}
use Rattle.wasm_spec.specs.Types.{SubType}
use Rattle.wasm_spec.proofs.GroupTrees.{all_each}
use Rattle.wasm_spec.proofs.MappedBack.{all_left, all_right}
use Rattle.wasm_spec.proofs.MappedTypes.{all_map}
use Rattle.wasm_spec.proofs.TypeMaps.{subs_refs-map}
use Rattle.wasmparser_types.specs.Index.{Index, Module, RecGroup, Id, module_index, number_of}
use Rattle.wasmparser_types.specs.SubTypes.{sub_type}
use Rattle.wasmparser_type_list.specs.TypeTables.{AreConsecutive, IsGroupAt, IsWithin, RefersBack, TablesAgree, TypeTables, absolute, known_group, range_after, sub_types, types_in}
use Rattle.wasmparser_type_list.specs.IdTypes.{AreFoundByKey, IsFoundByKey, RefersToNoModule, group_of, groups_of}
use Rattle.wasmparser_type_list.proofs.DistinctTypes.{HasForm, HaveForms}
use Rattle.wasmparser_type_list.proofs.KeyTrees.{IsEarlier}

-- ---- lists

all_joined : {X : Type 0} (P : X → Type 0) (xs ys : List X) → AllByRecursion P xs → AllByRecursion P ys → AllByRecursion P (xs ++ ys)
all_joined P [] ys h k = k
all_joined P (x ∷ xs) ys h k = (h.0, all_joined P xs ys h.1 k)

all_two : {X : Type 0} (P Q R : X → Type 0) → ((x : X) → P x → Q x → R x) → (xs : List X) → AllByRecursion P xs → AllByRecursion Q xs → AllByRecursion R xs
all_two P Q R one [] h k = tt
all_two P Q R one (x ∷ xs) h k = (one x h.0 k.0, all_two P Q R one xs h.1 k.1)

pub all_of_map : {X Y : Type 0} (P : Y → Type 0) (f : X → Y) (xs : List X) → AllByRecursion P (map f xs) → AllByRecursion (λ x. P (f x)) xs
all_of_map P f [] h = tt
all_of_map P f (x ∷ xs) h = (h.0, all_of_map P f xs h.1)

-- ---- ids that refer to known types

abbrev pub IsIdBelow : ℕ → Index → Type 0
IsIdBelow end (Module n) = ⊥
IsIdBelow end (RecGroup place) = ⊥
IsIdBelow end (Id n) = n < end

abbrev IsNoModule : Index → Type 0
IsNoModule index = module_index index ≡ None

is_id : (end : ℕ) (index : Index) → IsWithin end 0 index → IsNoModule index → IsIdBelow end index
is_id end (Module n) h k = absurd cc
is_id end (RecGroup place) h k = absurd (omega (arith, h))
is_id end (Id n) h k = h

still_id : (end more : ℕ) → end ≤ more → (index : Index) → IsIdBelow end index → IsIdBelow more index
still_id end more h (Module n) k = k
still_id end more h (RecGroup place) k = k
still_id end more h (Id n) k = omega (arith, h, k)

number_below : (end : ℕ) (index : Index) → IsIdBelow end index → number_of index < end
number_below end (Module n) h = absurd h
number_below end (RecGroup place) h = absurd h
number_below end (Id n) h = h

form_earlier : (start count end : ℕ) (index : Index) → IsIdBelow end (absolute start index) → IsWithin start count index → IsEarlier start index
form_earlier start count end (Module n) h k = h
form_earlier start count end (RecGroup place) h k = tt
form_earlier start count end (Id n) h k = k

-- ---- the tables

pub ends : (start : ℕ) (ranges : List (Range ℕ)) (end : ℕ) → AreConsecutive start ranges end → start ≤ end
ends start [] end are = omega (arith, are)
ends start (range ∷ ranges) end are = let h = ends range.end ranges end are.2 in omega (arith, h, are.0, are.1)

module _ (tables : TypeTables) where
  abbrev types : List (SubType Index)
  types = sub_types tables

  -- the types of a group, and those that come after it
  split : (range : Range ℕ) → range.start ≤ range.end → types_in tables range ++ drop range.end types ≡ drop range.start types
  split range order =
      let count = range.end - range.start in
      let end : range.start + count ≡ range.end = omega (arith, order) in
      ap (λ q. types_in tables range ++ q) (sym (drop-drop count range.start types ∙ ap (λ n. drop n types) end)) ∙ take-append-drop count (drop range.start types)

  pub count_in : (range : Range ℕ) → range.start ≤ range.end → range.end ≤ length types → length (types_in tables range) ≡ range.end - range.start
  count_in range order within =
      omega (arith, order, within, length-take (range.end - range.start) (drop range.start types), length-drop range.start types)

  members_from : (start : ℕ) (ranges : List (Range ℕ)) → AreConsecutive start ranges (length types) → flat_map members (map (group_of tables) ranges) ≡ subs_map number_of (drop start types)
  members_from start [] are = ap (subs_map number_of) (sym (drop_all start types (omega (arith, are))))
  members_from start (range ∷ ranges) are =
      let own = subs_map number_of (types_in tables range) in
      ap (λ q. own ++ q) (members_from range.end ranges are.2) ∙ sym (map-append (sub_map number_of) (types_in tables range) (drop range.end types))
      ∙ ap (subs_map number_of) (split range are.1 ∙ ap (λ n. drop n types) are.0)

  -- what is known of each group's references
  abbrev RefersToIds : Range ℕ → Type 0
  RefersToIds range = AllByRecursion (IsIdBelow range.end) (subs_refs (types_in tables range))

  ids_from : (start : ℕ) (ranges : List (Range ℕ)) → AreConsecutive start ranges (length types) → AllByRecursion (RefersBack tables) ranges
      → AllByRecursion IsNoModule (subs_refs (drop start types)) → AllByRecursion RefersToIds ranges
  ids_from start [] are known no_module = tt
  ids_from start (range ∷ ranges) are known no_module =
      let parts = ap (λ n. drop n types) (sym are.0) ∙ sym (split range are.1) in
      let refs = ap subs_refs parts ∙ flat_map-append sub_refs (types_in tables range) (drop range.end types) in
      let both = subst (AllByRecursion IsNoModule) refs no_module in
      let own = subs_refs (types_in tables range) in
      let others = subs_refs (drop range.end types) in (
        all_two (IsWithin range.end 0) IsNoModule (IsIdBelow range.end) (is_id range.end) own known.0 (all_left IsNoModule own others both),
        ids_from range.end ranges are.2 known.1 (all_right IsNoModule own others both),
      )

  in_range_from : (start : ℕ) (ranges : List (Range ℕ)) → AreConsecutive start ranges (length types) → AllByRecursion RefersToIds ranges → AreInRange start (map (group_of tables) ranges)
  in_range_from start [] are ids = tt
  in_range_from start (range ∷ ranges) are ids =
      let own = types_in tables range in
      let last = ends range.end ranges (length types) are.2 in
      let count : start + length (subs_map number_of own) ≡ range.end = omega (arith, are.0, are.1, last, count_in range are.1 last, length-map own (sub_map number_of)) in
      let below = subst (AllByRecursion (λ n. n < range.end)) (sym (subs_refs-map number_of own))
      (all_map (IsIdBelow range.end) (λ n. n < range.end) number_of (number_below range.end) (subs_refs own) ids.0) in
      (rw count below, rw count (in_range_from range.end ranges are.2 ids.1))

  refs_from : (start : ℕ) (ranges : List (Range ℕ)) → AreConsecutive start ranges (length types) → AllByRecursion RefersToIds ranges → AllByRecursion (IsIdBelow (length types)) (subs_refs (drop start types))
  refs_from start [] are ids = subst (λ q. AllByRecursion (IsIdBelow (length types)) (subs_refs q)) (sym (drop_all start types (omega (arith, are)))) tt
  refs_from start (range ∷ ranges) are ids =
      let parts = ap (λ n. drop n types) (sym are.0) ∙ sym (split range are.1) in
      let refs = ap subs_refs parts ∙ flat_map-append sub_refs (types_in tables range) (drop range.end types) in
      let own = subs_refs (types_in tables range) in
      subst (AllByRecursion (IsIdBelow (length types))) (sym refs)
      (all_joined (IsIdBelow (length types)) own (subs_refs (drop range.end types))
      (all_each (IsIdBelow range.end) (IsIdBelow (length types)) (still_id range.end (length types) (ends range.end ranges (length types) are.2)) own ids.0)
      (refs_from range.end ranges are.2 ids.1))

  -- ---- canonical forms

  abbrev known : List (SubType Index) → Option ℕ
  known group = known_group tables.known group

  form_of : (agree : TablesAgree tables) (number : ℕ) (range : Range ℕ) → slice_get tables.groups number ≡ Some range → RefersToIds range → IsFoundByKey tables number
      → HasForm known range.start number (subs_map number_of (types_in tables range))
  form_of agree number range at ids canonical =
      let form = canonical.0 in
      let it = go (known form) (agree.known form) canonical.1 in
      let one : range ≡ range_after it.start (length form) = some_same (sym at ∙ it.at) in
      let start : range.start ≡ it.start = ap (λ r. r.start) one in
      let count : it.start + length form - it.start ≡ length form = omega arith in
      let kept : types_in tables range ≡ subs_map (absolute range.start) form =
      ap (types_in tables) one ∙ ap (λ n. take n (drop it.start types)) count ∙ it.types ∙ ap (λ n. subs_map (absolute n) form) (sym start) in
      let refs = ap subs_refs kept ∙ subs_refs-map (absolute range.start) form in
      let absolutes = all_of_map (IsIdBelow range.end) (absolute range.start) (subs_refs form) (subst (AllByRecursion (IsIdBelow range.end)) refs ids) in
      let within = subst (λ n. AllByRecursion (IsWithin n (length form)) (subs_refs form)) (sym start) it.within in
      record {
        form = form;
        known_as = canonical.1;
        is = ap (subs_map number_of) kept;
        earlier = all_two (λ index. IsIdBelow range.end (absolute range.start index)) (IsWithin range.start (length form)) (IsEarlier range.start)
            (form_earlier range.start (length form) range.end) (subs_refs form) absolutes within;
      } where
        go : (o : Option ℕ) → IfSome o (λ n. IsGroupAt tables n canonical.0) → o ≡ Some number → IsGroupAt tables number canonical.0
        go None h is = absurd cc
        go (Some n) h is = let same : n ≡ number = cc in subst (λ n. IsGroupAt tables n canonical.0) same h

        some_same : {a b : Range ℕ} → Some a ≡ Some b → a ≡ b
        some_same e = cc

  forms_from : (canonical : ℕ → Bool) → TablesAgree tables → AreFoundByKey canonical tables → (number start : ℕ) (ranges : List (Range ℕ))
      → AreConsecutive start ranges (length types) → AllByRecursion RefersToIds ranges → ((k : ℕ) → slice_get ranges k ≡ slice_get tables.groups (number + k))
      → HaveForms known canonical number start (map (group_of tables) ranges)
  forms_from canonical agree are_canonical number start [] are ids here = tt
  forms_from canonical agree are_canonical number start (range ∷ ranges) are ids here =
      let own = types_in tables range in
      let none : number + 0 ≡ number = omega arith in
      let at : slice_get tables.groups number ≡ Some range = ap (slice_get tables.groups) (sym none) ∙ sym (here 0) in
      let last = ends range.end ranges (length types) are.2 in
      let count : start + length (subs_map number_of own) ≡ range.end = omega (arith, are.0, are.1, last, count_in range are.1 last, length-map own (sub_map number_of)) in (
        (λ is. subst (λ n. HasForm known n number (subs_map number_of own)) are.0
            (form_of agree number range at ids.0 (are_canonical number (slice_get_within tables.groups number range at) is))),
        rw count (forms_from canonical agree are_canonical (suc number) range.end ranges are.2 ids.1
            (λ k. here (suc k) ∙ ap (slice_get tables.groups) (next number k))),
      ) where
        next : (number k : ℕ) → number + suc k ≡ suc number + k
        next number k = omega arith

  -- ---- all groups

  module _ (agree : TablesAgree tables) where
    abbrev consecutive : AreConsecutive 0 tables.groups (length types)
    consecutive = subst (AreConsecutive 0 tables.groups) (sym (length-map tables.types sub_type)) agree.groups

    pub all_members : flat_map members (groups_of tables) ≡ subs_map number_of types
    all_members = members_from 0 tables.groups consecutive

    all_ids : RefersToNoModule tables → AllByRecursion RefersToIds tables.groups
    all_ids no_module = ids_from 0 tables.groups consecutive agree.references no_module

    pub all_in_range : RefersToNoModule tables → AreInRange 0 (groups_of tables)
    all_in_range no_module = in_range_from 0 tables.groups consecutive (all_ids no_module)

    pub all_refs : RefersToNoModule tables → AllByRecursion (IsIdBelow (length types)) (subs_refs types)
    all_refs no_module = refs_from 0 tables.groups consecutive (all_ids no_module)

    pub all_forms : RefersToNoModule tables → (canonical : ℕ → Bool) → AreFoundByKey canonical tables → HaveForms known canonical 0 0 (groups_of tables)
    all_forms no_module canonical are_canonical =
        forms_from canonical agree are_canonical 0 0 tables.groups consecutive (all_ids no_module) same where
          same : (k : ℕ) → slice_get tables.groups k ≡ slice_get tables.groups (0 + k)
          same k = let e : k ≡ 0 + k = omega arith in ap (slice_get tables.groups) e
