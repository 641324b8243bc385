-- A group that was interned has, as its types, those that it has in a type section after the module's other types.
use Rattle.std.proofs.Common.{◌≡◌, ℕ, zero, suc, ◌+◌, ◌-◌, ◌<◌, Bool, true, List, [], ◌∷◌, ◌++◌, length, map, take, drop, Some, None, inl, inr, refl, sym, ap, ◌∙◌, subst, arith}
use Rattle.std.proofs.lemmas.List.{append_assoc, length-append, length-map}
use Rattle.std.proofs.lemmas.Option.{slice_get-map}
use Rattle.std.specs.List.{AllByRecursion, range_with_len, slice_get}
use Rattle.std.specs.Option.{option_map, unwrap_or}
use Rattle.wasm_spec.proofs.GroupTrees.{length-places_of}
use Rattle.wasm_spec.proofs.Places.{get_either, get_left, get_right, get_some}
use Rattle.wasm_spec.proofs.TypeMaps.{subs_map-subs_map, subs_map_agree, subs_refs-map}
use Rattle.wasm_spec.specs.Syntax as syntax
use Rattle.wasm_spec.specs.TypeReferences.{sub_map, subs_map, subs_refs}
use Rattle.wasm_spec.specs.Trees.{DefType, GroupTree, Own, TreeReference, no_type, places_of, reference_of, reference_to, roll, tree_of, type_at, types_of_group}
use Rattle.wasm_spec.specs.Types.{RecGroup, Single, Group}
use Rattle.wasmparser_type_relations.specs.Canonical.{canonical_index, id_or_place}
use Rattle.wasmparser_type_list.specs.TypeTables.{IsGroupAt, IsWithin, TablesAgree, TypeTables, absolute, group_ids, ids_in, range_after, sub_types, types_in}
use Rattle.wasmparser_type_list.proofs.KeptGroups.{all_of_map}
use Rattle.wasmparser_type_list.specs.IdTypes.{group_after, group_of, id_types, tree_as}
use Rattle.wasmparser_rec_groups.proofs.GroupsInOrder.{stands_at}
use Rattle.wasmparser_rec_groups.specs.Contexts.{in_section, types_of}
use Rattle.wasmparser_rec_groups.proofs.CanonicalGroups.{members_mapped, of_members}
use Rattle.wasmparser_rec_groups.specs.Interning.{IsModuleIndex, NamesModuleTypes, canonical_members}
use Rattle.wasmparser_types.specs.Index.{Index, Module, RecGroup as Place, Id, number_of}
use Rattle.wasmparser_types.specs.RecGroups.{members}

pub section_members : (group : RecGroup Index) → syntax.members (in_section group) ≡ subs_map number_of (members group)
section_members (Single type) = refl
section_members (Group types) = refl

pub both : {X : Type 0} (P Q : X → Type 0) (xs : List X) → AllByRecursion P xs → AllByRecursion Q xs → AllByRecursion (λ x. P x × Q x) xs
both P Q [] h k = tt
both P Q (x ∷ xs) h k = ((h.0, k.0), both P Q xs h.1 k.1)

pub all_weaker : {X : Type 0} (P Q : X → Type 0) → ((x : X) → P x → Q x) → (xs : List X) → AllByRecursion P xs → AllByRecursion Q xs
all_weaker P Q one [] h = tt
all_weaker P Q one (x ∷ xs) h = (one x h.0, all_weaker P Q one xs h.1)

-- ---- one reference

-- ids: those of a module's types before the group, whose own types have the ids from this one on; all: the types of all ids
module _ (ids : List ℕ) (start : ℕ) (front more : List DefType) (length_is : length front ≡ start) where
  abbrev all : List DefType
  all = front ++ more

  abbrev before : List DefType
  before = map (type_at all) ids

  before_count : length before ≡ length ids
  before_count = length-map ids (type_at all)

  before_at : (n id : ℕ) → slice_get ids n ≡ Some id → slice_get before n ≡ Some (type_at all id)
  before_at n id at = slice_get-map (type_at all) ids n ∙ ap (option_map (type_at all)) at

  before_past : (n : ℕ) → slice_get ids n ≡ None → slice_get before n ≡ None
  before_past n none = slice_get-map (type_at all) ids n ∙ ap (option_map (type_at all)) none

  front_at : (id : ℕ) → id < start → slice_get front id ≡ Some (type_at all id)
  front_at id less =
      let at = get_some front id (omega (arith, less, length_is)) in
      at.1 ∙ ap Some (sym (ap (λ o. unwrap_or o no_type) (get_left front more id (omega (arith, less, length_is)) ∙ at.1)))

  front_past : (q : ℕ) → slice_get front (start + q) ≡ None
  front_past q = elim (get_either front (start + q)) [
    | inl at ↦ absurd (let within = at.2 in omega (arith, within, length_is))
    | inr past ↦ past.0
  ]

  reference_same : (count : ℕ) (r : Index) → IsModuleIndex r × IsWithin start count (canonical_index ids r)
      → reference_of front (number_of (absolute start (canonical_index ids r))) ≡ reference_of before (number_of r)
  reference_same count (Place place) h = absurd h.0
  reference_same count (Id id) h = absurd h.0
  reference_same count (Module n) h = elim (get_either ids n) [
    | inl at ↦
        let id = at.0 in
        let is : canonical_index ids (Module n) ≡ Id id = ap (λ o. id_or_place o (n - length ids)) at.1 in
        let less : id < start = subst (IsWithin start count) is h.1 in
        ap (λ i. reference_of front (number_of (absolute start i))) is ∙ ap (λ o. reference_to o (id - length front)) (front_at id less)
        ∙ sym (ap (λ o. reference_to o (n - length before)) (before_at n id at.1))
    | inr past ↦
        let q = past.1.0 in
        let q_is : n - length ids ≡ q = let e = past.1.1 in omega (arith, e) in
        let is : canonical_index ids (Module n) ≡ Place q = ap (λ o. id_or_place o (n - length ids)) past.0 ∙ ap Place q_is in
        let left : start + q - length front ≡ q = omega (arith, length_is) in
        let right : n - length before ≡ q = let e = past.1.1 in omega (arith, e, before_count) in
        ap (λ i. reference_of front (number_of (absolute start i))) is ∙ ap (λ o. reference_to o (start + q - length front)) (front_past q) ∙ ap Own left
        ∙ sym (ap (λ o. reference_to o (n - length before)) (before_past n past.0) ∙ ap Own right)
  ]

  tree_same : (group : RecGroup Index) → NamesModuleTypes group → (count : ℕ) → AllByRecursion (IsWithin start count) (subs_refs (canonical_members ids group))
      → tree_of front (group_after start (canonical_members ids group)) ≡ tree_of before (in_section group)
  tree_same group names count within =
      let plain = members group in
      let is = members_mapped (canonical_index ids) group in
      let refs = all_of_map (IsWithin start count) (canonical_index ids) (subs_refs plain)
      (subst (AllByRecursion (IsWithin start count)) (ap subs_refs is ∙ subs_refs-map (canonical_index ids) plain) within) in
      let pairs = both IsModuleIndex (λ r. IsWithin start count (canonical_index ids r)) (subs_refs plain) (of_members IsModuleIndex group names) refs in
      let f : Index → TreeReference = λ r. reference_of front (number_of (absolute start (canonical_index ids r))) in
      let h : Index → TreeReference = λ r. reference_of before (number_of r) in
      let agree = all_weaker (λ r. IsModuleIndex r × IsWithin start count (canonical_index ids r)) (λ r. f r ≡ h r) (reference_same count) (subs_refs plain) pairs in
      ap (λ ms. roll (subs_map (reference_of front) (subs_map number_of (subs_map (absolute start) ms)))) is
      ∙ ap (λ ms. roll (subs_map (reference_of front) (subs_map number_of ms))) (subs_map-subs_map (absolute start) (canonical_index ids) plain)
      ∙ ap (λ ms. roll (subs_map (reference_of front) ms)) (subs_map-subs_map number_of (λ r. absolute start (canonical_index ids r)) plain)
      ∙ ap roll (subs_map-subs_map (reference_of front) (λ r. number_of (absolute start (canonical_index ids r))) plain)
      ∙ ap roll (subs_map_agree (Own 0) f h plain agree)
      ∙ sym (ap roll (subs_map-subs_map (reference_of before) number_of plain))
      ∙ sym (ap (λ ms. roll (subs_map (reference_of before) ms)) (section_members group))

-- ---- the types of the group

pub places_at : {X : Type 0} (tree : GroupTree) (place : ℕ) (xs : List X) (j : ℕ) → j < length xs → slice_get (places_of tree place xs) j ≡ Some (record { tree = tree; place = place + j })
places_at tree place [] j h = absurd (omega arith)
places_at tree place (x ∷ xs) zero h = let e : place + 0 ≡ place = omega arith in rw e
places_at tree place (x ∷ xs) (suc j) h = let e : place + suc j ≡ suc place + j = omega arith in rw e (places_at tree (suc place) xs j (omega arith))

same_places : {X Y : Type 0} (tree : GroupTree) (place : ℕ) (xs : List X) (ys : List Y) → length xs ≡ length ys → places_of tree place xs ≡ places_of tree place ys
same_places tree place [] [] e = refl
same_places tree place [] (y ∷ ys) e = absurd (omega (arith, e))
same_places tree place (x ∷ xs) [] e = absurd (omega (arith, e))
same_places tree place (x ∷ xs) (y ∷ ys) e = ap (λ q. record { tree = tree; place = place } ∷ q) (same_places tree (suc place) xs ys (omega (arith, e)))

-- what stands in the middle of a list, by its places
middle : (front own rest : List DefType) → map (type_at ((front ++ own) ++ rest)) (range_with_len (length front) (length own)) ≡ own
middle front [] rest = refl
middle front (type ∷ own) rest =
    let here : slice_get ((front ++ type ∷ own) ++ rest) (length front) ≡ Some type =
    ap (λ q. slice_get q (length front)) (append_assoc front (type ∷ own) rest) ∙ first_after front (own ++ rest) in
    let moved : (front ++ type ∷ own) ++ rest ≡ ((front ++ type ∷ []) ++ own) ++ rest = ap (λ q. q ++ rest) (sym (append_assoc front (type ∷ []) own)) in
    let count : length front + 1 ≡ length (front ++ type ∷ []) = omega (arith, length-append front (type ∷ [])) in
    ap (λ o. unwrap_or o no_type ∷ map (type_at ((front ++ type ∷ own) ++ rest)) (range_with_len (length front + 1) (length own))) here
    ∙ ap (λ q. type ∷ map (type_at q) (range_with_len (length front + 1) (length own))) moved
    ∙ ap (λ n. type ∷ map (type_at (((front ++ type ∷ []) ++ own) ++ rest)) (range_with_len n (length own))) count
    ∙ ap (λ q. type ∷ q) (middle (front ++ type ∷ []) own rest) where
      first_after : (xs more : List DefType) → slice_get (xs ++ type ∷ more) (length xs) ≡ Some type
      first_after xs more = let none : length xs + 0 ≡ length xs = omega arith in subst (λ n. slice_get (xs ++ type ∷ more) n ≡ Some type) none (get_right xs (type ∷ more) 0)

-- tables in which a group that counts as canonical stands, and the ids of a module's types before it
module _ (canonical : ℕ → Bool) (tables : TypeTables) (agree : TablesAgree tables) (ids : List ℕ) (group : RecGroup Index) (names : NamesModuleTypes group) (number : ℕ)
    (at : IsGroupAt tables number (canonical_members ids group)) (counts : canonical number ≡ true) where
  abbrev types : List DefType
  types = id_types canonical tables

  abbrev context : List DefType
  context = types_of canonical tables ids

  count_is : length (canonical_members ids group) ≡ length (syntax.members (in_section group))
  count_is =
      ap length (members_mapped (canonical_index ids) group) ∙ length-map (members group) (sub_map (canonical_index ids))
      ∙ sym (ap length (section_members group) ∙ length-map (members group) (sub_map number_of))

  group_is : group_of tables (range_after at.start (length (canonical_members ids group))) ≡ group_after at.start (canonical_members ids group)
  group_is =
      let count : at.start + length (canonical_members ids group) - at.start ≡ length (canonical_members ids group) = omega arith in
      let same : types_in tables (range_after at.start (length (canonical_members ids group))) ≡ subs_map (absolute at.start) (canonical_members ids group) =
      ap (λ n. take n (drop at.start (sub_types tables))) count ∙ at.types in
      ap (λ ms. Group (subs_map number_of ms)) same

  pub stands : (front : List DefType) × (rest : List DefType) × (length front ≡ at.start) × (types ≡ (front ++ types_of_group context (in_section group)) ++ rest)
  stands =
      let it = stands_at canonical tables agree number (range_after at.start (length (canonical_members ids group))) at.at in
      let known = group_of tables (range_after at.start (length (canonical_members ids group))) in
      let own = places_of (tree_as (canonical number) number (tree_of it.front known)) 0 (syntax.members known) in
      let plain : own ≡ places_of (tree_of it.front (group_after at.start (canonical_members ids group))) 0 (syntax.members (group_after at.start (canonical_members ids group))) =
      ap (λ c. places_of (tree_as c number (tree_of it.front known)) 0 (syntax.members known)) counts ∙ ap (λ g. places_of (tree_of it.front g) 0 (syntax.members g)) group_is in
      let all_is : types ≡ it.front ++ (own ++ it.rest) = it.all_is ∙ append_assoc it.front own it.rest in
      let tree : tree_of it.front (group_after at.start (canonical_members ids group)) ≡ tree_of context (in_section group) =
      subst (λ q. tree_of it.front (group_after at.start (canonical_members ids group)) ≡ tree_of (map (type_at q) ids) (in_section group)) (sym all_is)
      (tree_same ids at.start it.front (own ++ it.rest) it.length_is group names (length (canonical_members ids group)) at.within) in
      let counted : length (syntax.members (group_after at.start (canonical_members ids group))) ≡ length (syntax.members (in_section group)) =
      length-map (subs_map (absolute at.start) (canonical_members ids group)) (sub_map number_of) ∙ length-map (canonical_members ids group) (sub_map (absolute at.start)) ∙ count_is in
      let same : own ≡ types_of_group context (in_section group) =
      plain ∙ ap (λ t. places_of t 0 (syntax.members (group_after at.start (canonical_members ids group)))) tree
      ∙ same_places (tree_of context (in_section group)) 0 (syntax.members (group_after at.start (canonical_members ids group))) (syntax.members (in_section group)) counted in
      (it.front, it.rest, it.length_is, it.all_is ∙ ap (λ q. (it.front ++ q) ++ it.rest) same)

  pub own_types : types_of canonical tables (group_ids tables number) ≡ types_of_group context (in_section group)
  own_types =
      let own = types_of_group context (in_section group) in
      let counted : length own ≡ length (canonical_members ids group) =
      length-places_of (tree_of context (in_section group)) 0 (syntax.members (in_section group)) ∙ sym count_is in
      let count : at.start + length (canonical_members ids group) - at.start ≡ length own = omega (arith, counted) in
      ap (λ o. map (type_at types) (ids_in o)) at.at ∙ ap (λ n. map (type_at types) (range_with_len at.start n)) count
      ∙ ap (λ n. map (type_at types) (range_with_len n (length own))) (sym stands.2)
      ∙ ap (λ q. map (type_at q) (range_with_len (length stands.0) (length own))) stands.3 ∙ middle stands.0 own stands.1
