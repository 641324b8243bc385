-- The limits that a made module passes, by its numbers.
use Rattle.std.proofs.Common.{◌≡◌, ℕ, zero, suc, nat_lt, ◌&&◌, not, false, ◌<◌, ◌≤◌, Bool, true, List, [], ◌∷◌, ◌++◌, length, map, refl, ap, sym, ◌∙◌, subst, arith, ◌⊎◌, inl, inr, Some}
use Rattle.std.specs.List.{AllByRecursion, flat_map, slice_get}
use Rattle.std.specs.Option.{unwrap_or}
use Rattle.std.proofs.lemmas.Bool.{ltb-true, and_parts, ltb-false}
use Rattle.std.proofs.lemmas.Bool.Decides.{leb_tells}
use Rattle.std.proofs.lemmas.Option.{slice_get_within}
use Rattle.wasm_spec.specs.Features.{Features}
use Rattle.wasm_spec.specs.Groups.{AllGroups, AreWellFormedGroups, IsWellFormedGroup, PassesLimit, items_in, many_items}
use Rattle.wasm_spec.specs.Limits.{Limit, Types, Groups, Imports, Functions, Globals, Tags, Exports, Tables, Memories, ElementSegments, DataSegments, TypeSize, Params, Results, Fields, Depth, most}
use Rattle.wasm_spec.specs.Trees.{DefType, no_type, section_types, type_at, types_after, types_from, types_of_group, unrolled}
use Rattle.wasm_spec.specs.Types.{CompositeType, FuncComposite, StructComposite, ArrayComposite, ContComposite, RecGroup, SubType}
use Rattle.wasm_spec.proofs.Carried.{carried, limits_carried_back}
use Rattle.wasm_spec.proofs.GroupTrees.{section_count}
use Rattle.wasm_spec.proofs.Places.{all_by_place, all_get, get_cases, get_left, get_some}
use Rattle.wasm_spec.proofs.SectionLimits.{rules_and_limits}
use Rattle.wasm_spec.proofs.SectionTypes.{section_closed, section_keeps, types_from_more}
use Rattle.wasm_spec.proofs.TypeLimits.{items_passed}
use Rattle.wasm_validity.specs.Context.{Context, after, after_all, at_first}
use Rattle.wasm_validity.specs.Entries.{Entry, OfType, entries_of}
use Rattle.wasm_validity.specs.Rules.{KeepLimits, PassLimit, Passes, PassesByTypes, are_within}
use Rattle.wasm_smith_validity.specs.ValidGroups.{AreValidGroups, types_of}
use Rattle.wasm_smith_validity.proofs.GroupLaws.{valid_depth, valid_in_range, valid_rules}
use Rattle.wasm_smith_validity.specs.Made.{Made}
use Rattle.wasm_smith_validity.specs.Sections.{kinds_with, sections_with}
use Rattle.wasm_smith_validity.proofs.CustomSections.{HasLegalName, limits_between, passed_between}
use Rattle.wasm_smith_validity.specs.Validity.{IsValidByIndex}
use Rattle.wasm_smith_validity.proofs.MadeGroups.{of_groups, typed, groups_stand}
use Rattle.wasm_smith_validity.proofs.MadeSections.{behind_types_said, rules_of, said_behind, sections_say}
use Rattle.wasm_smith_module.specs.Measures.{counts_of, item_limits, lengths_of, measures_of_type, numbers_of, sizes_of, type_measures}
use Rattle.wasm_smith_module.proofs.EntryNumbers.{AreFew, Counts, HaveNoTypes, at_limit, keep_limits, number, own_numbers, pass_limit, pass_own, passes_parts, within_parts}
use Rattle.wasm_smith_module.proofs.MadeNumbers.{all_counted, all_own, bounded, have_no_types, made_counts}

-- ---- numbers of a list of limits

not_past : (past rest : Bool) → (not past && rest) ≡ true → past ≡ false
not_past true rest e = absurd cc
not_past false rest e = refl

within_at : (f : Limit → ℕ) (limits : List Limit) (place : ℕ) (limit : Limit) → slice_get limits place ≡ Some limit
    → are_within (map (λ l. (l, f l)) limits) ≡ true → f limit ≤ most limit
within_at f [] place limit at h = absurd cc
within_at f (l ∷ limits) zero limit at h =
    let same : l ≡ limit = cc in
    let first : nat_lt (most l) (f l) ≡ false = not_past (nat_lt (most l) (f l)) (are_within (map (λ l. (l, f l)) limits)) h in
    subst (λ (l : Limit). f l ≤ most l) same (ltb-false (most l) (f l) first)
within_at f (l ∷ limits) (suc place) limit at h =
    within_at f limits place limit at (and_parts (not (nat_lt (most l) (f l))) (are_within (map (λ l. (l, f l)) limits)) h).1

-- no count is too large
few_counts : (c : Counts) → are_within (map (λ l. (l, number c l)) bounded) ≡ true → (limit : Limit) → number c limit ≤ most limit
few_counts c h Types = within_at (number c) bounded 0 Types refl h
few_counts c h Groups = within_at (number c) bounded 1 Groups refl h
few_counts c h Imports = within_at (number c) bounded 2 Imports refl h
few_counts c h Functions = within_at (number c) bounded 3 Functions refl h
few_counts c h Tables = within_at (number c) bounded 4 Tables refl h
few_counts c h Memories = within_at (number c) bounded 5 Memories refl h
few_counts c h Tags = within_at (number c) bounded 6 Tags refl h
few_counts c h Globals = within_at (number c) bounded 7 Globals refl h
few_counts c h Exports = within_at (number c) bounded 8 Exports refl h
few_counts c h ElementSegments = within_at (number c) bounded 9 ElementSegments refl h
few_counts c h DataSegments = within_at (number c) bounded 10 DataSegments refl h
few_counts c h TypeSize = within_at (number c) bounded 11 TypeSize refl h
few_counts c h _ = omega arith

passed_in : (f : Limit → ℕ) (limits : List Limit) (limit : Limit) → Passes limit (map (λ l. (l, f l)) limits) → most limit < f limit
passed_in f [] limit p = absurd p
passed_in f (l ∷ limits) limit (inl at) = subst (λ (l : Limit). most l < f l) at.0 (ltb-true (most l) (f l) at.1)
passed_in f (l ∷ limits) limit (inr later) = passed_in f limits limit later

few_at_first : (limit : Limit) → at_limit at_first limit ≤ most limit
few_at_first TypeSize = omega arith
few_at_first _ = omega arith

-- ---- types

-- a type has few items where its numbers are within their limits
few_items : (c : CompositeType ℕ) → are_within (map (λ limit. (limit, items_in c limit)) item_limits) ≡ true → (limit : Limit) → items_in c limit ≤ most limit
few_items (FuncComposite type) h Params = within_at (items_in (FuncComposite type)) item_limits 0 Params refl h
few_items (FuncComposite type) h Results = within_at (items_in (FuncComposite type)) item_limits 1 Results refl h
few_items (FuncComposite type) h _ = omega arith
few_items (StructComposite fields) h Fields = within_at (items_in (StructComposite fields)) item_limits 2 Fields refl h
few_items (StructComposite fields) h _ = omega arith
few_items (ArrayComposite field) h limit = omega arith
few_items (ContComposite function) h limit = omega arith

measured_at : (types : List (SubType ℕ)) (index : ℕ) (type : SubType ℕ) → slice_get types index ≡ Some type → are_within (type_measures types) ≡ true
    → are_within (measures_of_type type) ≡ true
measured_at [] index type at h = absurd cc
measured_at (first ∷ types) zero type at h =
    let same : first ≡ type = cc in
    subst (λ (type : SubType ℕ). are_within (measures_of_type type) ≡ true) same (within_parts (measures_of_type first) (type_measures types) h).0
measured_at (first ∷ types) (suc index) type at h = measured_at types index type at (within_parts (measures_of_type first) (type_measures types) h).1

is_depth : (limit : Limit) → (limit ≡ Depth) ⊎ (limit ≡ Depth → ⊥)
is_depth Depth = inl refl
is_depth _ = inr (λ e. absurd cc)

-- of groups that are valid by index no type passes a limit, where no number of theirs does
no_type_past : (features : Features) (groups : List (RecGroup ℕ)) → AreValidGroups features groups → are_within (type_measures (types_of groups)) ≡ true
    → (index : ℕ) (type : DefType) → slice_get (section_types groups) index ≡ Some type → (limit : Limit) → PassesLimit unrolled type limit → ⊥
no_type_past features groups valid within index type at limit passes = elim (is_depth limit) [
  | inl deep ↦ valid_depth features groups index type valid at (subst (PassesLimit unrolled type) deep passes)
  | inr other ↦
      let f = type_at (section_types groups) in
      let types = types_of groups in
      let range = valid_in_range features groups valid in
      let below : index < length types = omega (arith, section_count groups, slice_get_within (section_types groups) index type at) in
      let (sub, is) = get_some types index below in
      let back = limits_carried_back f (slice_get types) unrolled (section_keeps groups range) (section_closed groups range) in
      let same : type ≡ f index = sym (ap (λ q. unwrap_or q no_type) at) in
      let here : PassesLimit (slice_get types) index limit = back.limits index limit (sub, is) (subst (λ t. PassesLimit unrolled t limit) same passes) in
      let many : most limit < items_in sub.composite_type limit = (items_passed (slice_get types) index sub limit is other).0 here in
      let few = few_items sub.composite_type (measured_at types index sub is within) limit in
      omega (arith, few, many)
]

within_limits : (features : Features) (groups : List (RecGroup ℕ)) → AreValidGroups features groups → are_within (type_measures (types_of groups)) ≡ true
    → AreWellFormedGroups features [] groups
within_limits features groups valid within =
    rules_and_limits features groups [] (valid_rules features groups valid)
    (all_by_place (λ type. (limit : Limit) → PassesLimit unrolled type limit → ⊥) (section_types groups) (no_type_past features groups valid within))

-- a well-formed group passes no limit by what its types have
group_has_none : (features : Features) (before : List DefType) (group : RecGroup ℕ) → IsWellFormedGroup features before group → (cx : Context) → cx.types ≡ before
    → (limit : Limit) → PassesByTypes limit cx (OfType group) → ⊥
group_has_none features before group h cx e limit p =
    all_get (λ (type : DefType). (limit : Limit) → PassesLimit unrolled type limit → ⊥) (types_of_group before group) h.within_limits p.place p.type
    (subst (λ types. slice_get (types_of_group types group) p.place ≡ Some p.type) e p.at) limit p.passes

groups_have_none : (features : Features) (cx : Context) (groups : List (RecGroup ℕ)) (others : List Entry) → AllGroups (IsWellFormedGroup features) cx.types groups
    → HaveNoTypes (after_all cx (of_groups groups)) others → HaveNoTypes cx (of_groups groups ++ others)
groups_have_none features cx [] others h k = k
groups_have_none features cx (group ∷ groups) others h k =
    (group_has_none features cx.types group h.0 cx refl, groups_have_none features (after cx (OfType group)) groups others h.1 k)

-- ---- types that pass a limit

-- the type of this index has more items than a limit lets through
record HasMany (limit : Limit) (types : List (SubType ℕ)) : Type 0 where
  index : ℕ
  type : SubType ℕ
  at : slice_get types index ≡ Some type
  many : most limit < items_in type.composite_type limit

many_of : (limit : Limit) (types : List (SubType ℕ)) → Passes limit (type_measures types) → HasMany limit types
many_of limit [] p = absurd p
many_of limit (type ∷ types) p = elim (passes_parts limit (measures_of_type type) (type_measures types) p) [
  | inl here ↦ record { index = 0; type = type; at = refl; many = passed_in (items_in type.composite_type) item_limits limit here }
  | inr later ↦ let other = many_of limit types later in record { index = suc other.index; type = other.type; at = other.at; many = other.many }
]

-- a type behind those that were there is one of some group
in_group : (limit : Limit) (cx : Context) (groups : List (RecGroup ℕ)) (others : List Entry) (index : ℕ) (type : DefType) → slice_get (types_from cx.types groups) index ≡ Some type
    → length cx.types ≤ index → PassesLimit unrolled type limit → PassLimit limit cx (of_groups groups ++ others)
in_group limit cx [] others index type at behind passes = let below = slice_get_within cx.types index type at in absurd (omega (arith, behind, below))
in_group limit cx (group ∷ groups) others index type at behind passes =
    let next = types_after cx.types group in
    elim (leb_tells (length next) index) [
      | inl later ↦ inr (inr (in_group limit (after cx (OfType group)) groups others index type at later.1 passes))
      | inr here ↦
          let more = types_from_more groups next in
          let there : slice_get next index ≡ Some type = sym (get_left next more.0 index here.1) ∙ (ap (λ types. slice_get types index) (sym more.1) ∙ at) in
          elim (get_cases cx.types (types_of_group cx.types group) index type there) [
            | inl before ↦ let below = slice_get_within cx.types index type before in absurd (omega (arith, behind, below))
            | inr own ↦ let (place, is, found) = own in inr (inl (record { place = place; type = type; at = found; passes = passes }))
          ]
    ]

types_pass : (features : Features) (groups : List (RecGroup ℕ)) (others : List Entry) (limit : Limit) → AreValidGroups features groups
    → Passes limit (type_measures (types_of groups)) → PassLimit limit at_first (of_groups groups ++ others)
types_pass features groups others limit valid p =
    let f = type_at (section_types groups) in
    let types = types_of groups in
    let past = many_of limit types p in
    let here : PassesLimit (slice_get types) past.index limit = many_items (record { type = past.type; is = past.at; holds = past.many }) in
    let passes : PassesLimit unrolled (f past.index) limit =
    (carried f (slice_get types) unrolled (section_keeps groups (valid_in_range features groups valid))).limits past.index limit here in
    let below : past.index < length (section_types groups) = omega (arith, section_count groups, slice_get_within types past.index past.type past.at) in
    let (type, at) = get_some (section_types groups) past.index below in
    let same : f past.index ≡ type = ap (λ q. unwrap_or q no_type) at in
    in_group limit at_first groups others past.index type at (omega arith) (subst (λ t. PassesLimit unrolled t limit) same passes)

-- ---- modules

abbrev all_entries : Bool → List (List ℕ) → Made → List Entry
all_entries counted bodies m = of_groups m.groups ++ behind_types_said counted bodies m

pub limits_kept : (features : Features) (m : Made) (counted : Bool) (bodies : List (List ℕ)) → IsValidByIndex features m
    → AllByRecursion HasLegalName m.customs → are_within (numbers_of bodies m) ≡ true → KeepLimits at_first (entries_of (sections_with counted bodies m))
limits_kept features m counted bodies valid named within =
    let parts = within_parts (counts_of m) (sizes_of bodies m) within in
    let sizes = within_parts (type_measures (types_of m.groups)) (lengths_of bodies m) parts.1 in
    let counts = all_counted counted bodies m (groups_stand features m.groups (rules_of features m valid).valid) in
    let few : AreFew (after_all at_first (all_entries counted bodies m)) = λ limit.
    subst (λ (c : Counts). number c limit ≤ most limit) (sym counts) (few_counts (made_counts m) parts.0 limit) in
    let lengths : are_within (flat_map own_numbers (all_entries counted bodies m)) ≡ true = ap are_within (all_own counted bodies m) ∙ sizes.1 in
    let none = groups_have_none features at_first m.groups (behind_types_said counted bodies m) (within_limits features m.groups (rules_of features m valid).valid sizes.0)
    (have_no_types (typed m.groups) (behind_types_said counted bodies m) (said_behind counted bodies m)) in
    limits_between m.customs (kinds_with counted bodies m) at_first named
    (subst (KeepLimits at_first) (sym (sections_say counted bodies m)) (keep_limits at_first (all_entries counted bodies m) few lengths none))

pub limit_passed : (features : Features) (m : Made) (counted : Bool) (bodies : List (List ℕ)) (limit : Limit) → IsValidByIndex features m
    → Passes limit (numbers_of bodies m) → PassLimit limit at_first (entries_of (sections_with counted bodies m))
limit_passed features m counted bodies limit valid passes =
    let entries = all_entries counted bodies m in
    let counts = all_counted counted bodies m (groups_stand features m.groups (rules_of features m valid).valid) in
    let by_count : Passes limit (counts_of m) → PassLimit limit at_first entries = λ p.
    pass_limit limit at_first entries (few_at_first limit) (subst (λ (c : Counts). most limit < number c limit) (sym counts) (passed_in (number (made_counts m)) bounded limit p)) in
    let by_length : Passes limit (lengths_of bodies m) → PassLimit limit at_first entries = λ p.
    pass_own limit at_first entries (subst (Passes limit) (sym (all_own counted bodies m)) p) in
    let by_size : Passes limit (sizes_of bodies m) → PassLimit limit at_first entries = λ p.
    elim (passes_parts limit (type_measures (types_of m.groups)) (lengths_of bodies m) p) [
      | inl q ↦ types_pass features m.groups (behind_types_said counted bodies m) limit (rules_of features m valid).valid q
      | inr q ↦ by_length q
    ] in
    passed_between limit 0 m.customs (kinds_with counted bodies m) at_first (subst (PassLimit limit at_first) (sym (sections_say counted bodies m))
    (elim (passes_parts limit (counts_of m) (sizes_of bodies m) passes) [ inl p ↦ by_count p | inr p ↦ by_size p ]))
