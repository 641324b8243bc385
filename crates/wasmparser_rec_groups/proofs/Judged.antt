-- Whether an interned group keeps all rules, by the rules on ids and by those on the types of a type section.
use Rattle.std.proofs.Common.{◌≡◌, ℕ, zero, suc, ◌+◌, ◌-◌, ◌<◌, ◌≤◌, Bool, true, false, ◌&&◌, ◌||◌, nat_eq, List, [], ◌∷◌, length, map, take, drop, Some, refl, sym, ap, ◌∙◌, subst, arith}
use Rattle.std.proofs.lemmas.Bool.{eqb-true}
use Rattle.std.proofs.lemmas.List.{length-map}
use Rattle.std.proofs.lemmas.Option.{slice_get-map, slice_get_within}
use Rattle.std.specs.List.{AllByRecursion, list_all, slice_get}
use Rattle.std.specs.Option.{option_map}
use Rattle.wasm_spec.proofs.Carried.{carried, carried_back, limits_carried_back}
use Rattle.wasm_spec.proofs.GroupTrees.{length-places_of}
use Rattle.wasm_spec.proofs.MappedBack.{all_left, all_right}
use Rattle.wasm_spec.proofs.MappedTypes.{all_map, items_in_map}
use Rattle.wasm_spec.proofs.Places.{all_by_place, all_get, get_some}
use Rattle.wasm_spec.proofs.TypeMaps.{group_refs-map}
use Rattle.wasm_spec.specs.Features.{Features, FunctionReferences, Gc, StackSwitching, has, needs_type_canonicalization}
use Rattle.wasm_spec.specs.Gates.{is_allowed_composite, is_allowed_group, is_allowed_sub}
use Rattle.wasm_spec.specs.Groups.{AreWellFormedFrom, ContinuesFunc, ExtendsSupertypes, IsWellFormedAt, IsWithinGroupLimits, KeepsGroupRules, PassesLimit, items_in, reference_bound}
use Rattle.wasm_spec.specs.Limits.{Limit, IsPassedBy}
use Rattle.wasm_spec.specs.ReferenceMaps.{AreTypes, Carries, KeepsTypes}
use Rattle.wasm_spec.specs.Syntax as syntax
use Rattle.wasm_spec.specs.TypeReferences.{composite_map, composite_refs, group_refs, sub_map, sub_refs, subs_map}
use Rattle.wasm_spec.specs.Trees.{DefType, RefersBelow, tree_of, type_at, types_after, types_of_group, unrolled}
use Rattle.wasm_spec.specs.Types.{Group, RecGroup, Single, SubType}
use Rattle.wasmparser_type_relations.specs.Canonical.{IsBelow, canonical_index, index_bound}
use Rattle.wasmparser_type_list.specs.TypeTables.{IsGroupAt, TablesAgree, TypeTables, absolute, range_after, sub_types, type_by_id}
use Rattle.wasmparser_type_list.proofs.IdLaws.{ids_closed, ids_one_to_one, ids_unroll}
use Rattle.wasmparser_type_list.specs.IdTypes.{AreFoundByKey, RefersToNoModule, type_of_index}
use Rattle.wasmparser_rec_groups.proofs.ItemLaws.{few_mapped}
use Rattle.wasmparser_rec_groups.proofs.MappedGates.{same_gate}
use Rattle.wasmparser_rec_groups.proofs.Members.{member_same, own_by_id}
use Rattle.wasmparser_rec_groups.proofs.OwnTypes.{all_weaker, both, places_at, section_members}
use Rattle.wasmparser_rec_groups.proofs.RuleLaws.{passes_none}
use Rattle.wasmparser_rec_groups.specs.Contexts.{IsRightAsWritten, PassesGroupLimit, in_section, types_of}
use Rattle.wasmparser_rec_groups.proofs.CanonicalGroups.{both_true, have_at, mapped_at, members_mapped, of_members, of_type, test_at}
use Rattle.wasmparser_rec_groups.specs.Interning.{CanBeInterned, IsModuleIndex, NamesModuleTypes, canonical_members}
use Rattle.wasmparser_rec_groups.specs.ItemLimits.{HaveFewItems}
use Rattle.wasmparser_rec_groups.specs.Rules.{IsIn, KeepsRules, KeepsRulesAndDepth}
use Rattle.wasmparser_types.specs.Index.{Index, Module, RecGroup as Place, Id, number_of}
use Rattle.wasmparser_types.specs.RecGroups.{members}

-- ---- parts of lists

get_drop : {X : Type 0} (start : ℕ) (xs : List X) (place : ℕ) → slice_get (drop start xs) place ≡ slice_get xs (start + place)
get_drop zero xs place = let none : 0 + place ≡ place = omega arith in ap (slice_get xs) (sym none)
get_drop (suc start) [] place = refl
get_drop (suc start) (x ∷ xs) place =
    let next : suc start + place ≡ suc (start + place) = omega arith in get_drop start xs place ∙ ap (slice_get (x ∷ xs)) (sym next)

get_take : {X : Type 0} (count : ℕ) (xs : List X) (place : ℕ) → place < count → slice_get (take count xs) place ≡ slice_get xs place
get_take zero xs place less = absurd (omega (arith, less))
get_take (suc count) [] place less = refl
get_take (suc count) (x ∷ xs) zero less = refl
get_take (suc count) (x ∷ xs) (suc place) less = get_take count xs place (omega (arith, less))

-- ---- references

pub below_number : (bound : ℕ) (r : Index) → IsModuleIndex r × IsBelow bound r → number_of r < bound
below_number bound (Module n) h = h.1
below_number bound (Place place) h = absurd h.0
below_number bound (Id id) h = absurd h.0

below_more : (bound more : ℕ) → bound ≤ more → (r : Index) → IsModuleIndex r × IsBelow bound r → IsModuleIndex r × IsBelow more r
below_more bound more fits (Module n) h = let below = h.1 in (tt, omega (arith, below, fits))
below_more bound more fits (Place place) h = absurd h.0
below_more bound more fits (Id id) h = absurd h.0

bound_fits : (gc : Bool) (before count : ℕ) → index_bound gc before count ≤ before + count
bound_fits true before count = omega arith
bound_fits false before count = omega arith

-- the rule on each type, from its place on
pub each_from : (types : List DefType) (index : ℕ) (list : List (SubType ℕ)) → ((place : ℕ) (type : SubType ℕ) → slice_get list place ≡ Some type → IsWellFormedAt types (index + place) type)
    → AreWellFormedFrom types index list
each_from types index [] each = tt
each_from types index (type ∷ list) each =
    let here : index + 0 ≡ index = omega arith in (
      subst (λ n. IsWellFormedAt types n type) here (each 0 type refl),
      each_from types (suc index) list (λ place other at. let next : index + suc place ≡ suc index + place = omega arith in subst (λ n. IsWellFormedAt types n other) next (each (suc place) other at)),
    )

pub each_at : (types : List DefType) (index : ℕ) (list : List (SubType ℕ)) → AreWellFormedFrom types index list → (place : ℕ) (type : SubType ℕ) → slice_get list place ≡ Some type
    → IsWellFormedAt types (index + place) type
each_at types index [] are place type at = absurd cc
each_at types index (first ∷ list) are zero type at =
    let one : first ≡ type = cc in
    let here : index ≡ index + 0 = omega arith in
    subst (λ n. IsWellFormedAt types n type) here (subst (IsWellFormedAt types index) one are.0)
each_at types index (first ∷ list) are (suc place) type at =
    let next : suc index + place ≡ index + suc place = omega arith in subst (λ n. IsWellFormedAt types n type) next (each_at types (suc index) list are.1 place type at)

-- the range on references, in the words of the specification
pub bound_is : (features : Features) (context : List DefType) (ids : List ℕ) (group : RecGroup Index) → length context ≡ length ids
    → reference_bound features (length context) (in_section group) ≡ index_bound (has features Gc) (length ids) (length (members group))
bound_is features context ids group count = go (has features Gc) refl where
  members_count : length (syntax.members (in_section group)) ≡ length (members group)
  members_count = ap length (section_members group) ∙ length-map (members group) (sub_map number_of)

  go : (gc : Bool) → has features Gc ≡ gc → reference_bound features (length context) (in_section group) ≡ index_bound (has features Gc) (length ids) (length (members group))
  go true on = rw (on, count, members_count) refl
  go false off = rw (off, count) refl

pub in_range : (features : Features) (context : List DefType) (ids : List ℕ) (group : RecGroup Index) → length context ≡ length ids → NamesModuleTypes group
    → AllByRecursion (IsBelow (index_bound (has features Gc) (length ids) (length (members group)))) (group_refs group)
    → RefersBelow (reference_bound features (length context) (in_section group)) (in_section group)
in_range features context ids group count names below =
    let bound = index_bound (has features Gc) (length ids) (length (members group)) in
    let Both : Index → Type 0 = λ r. IsModuleIndex r × IsBelow bound r in
    subst (λ b. RefersBelow b (in_section group)) (sym (bound_is features context ids group count))
    (subst (AllByRecursion (λ n. n < bound)) (sym (group_refs-map number_of group))
    (all_map Both (λ n. n < bound) number_of (below_number bound) (group_refs group) (both IsModuleIndex (IsBelow bound) (group_refs group) names below)))

-- what a group keeps as it is written
pub right_as_written : (canonical : ℕ → Bool) (features : Features) (ids : List ℕ) (tables : TypeTables) (group : RecGroup Index) → NamesModuleTypes group → CanBeInterned features ids tables group
    → HaveFewItems (members group) → IsRightAsWritten features (types_of canonical tables ids) (in_section group)
right_as_written canonical features ids tables group names internable few =
    let context = types_of canonical tables ids in
    record {
      allowed = same_gate number_of features group ∙ internable.allowed;
      in_range = in_range features context ids group (length-map ids (type_at _)) names internable.in_range;
      few_items = subst HaveFewItems (sym (section_members group)) (few_mapped number_of (members group) few);
    }

-- ---- where types aren't canonicalized, none has supertypes

gc_off : (a b c : Bool) → (a || b || c) ≡ false → b ≡ false
gc_off a false c h = refl
gc_off true true c h = absurd cc
gc_off false true c h = absurd cc

and_true : (b : Bool) → b ≡ true → (b && true) ≡ true
and_true true h = refl
and_true false h = absurd cc

second_of : (a b c : Bool) → c ≡ false → (a && b || c) ≡ true → b ≡ true
second_of true true c off h = refl
second_of true false true off h = absurd cc
second_of true false false off h = absurd cc
second_of false b true off h = absurd cc
second_of false b false off h = absurd cc

none_of : (xs : List Index) → nat_eq (length xs) 0 ≡ true → xs ≡ []
none_of [] h = refl
none_of (x ∷ xs) h = let none = eqb-true (length (x ∷ xs)) 0 h in absurd (omega (arith, none))

allowed_sub : (features : Features) (group : RecGroup Index) (plain : SubType Index) (place : ℕ) → is_allowed_group features group ≡ true → slice_get (members group) place ≡ Some plain
    → is_allowed_sub features plain ≡ true
allowed_sub features (Single type) plain place allowed found = test_at (is_allowed_sub features) (type ∷ []) place plain (and_true (is_allowed_sub features type) allowed) found
allowed_sub features (Group types) plain place allowed found = test_at (is_allowed_sub features) types place plain (both_true (has features Gc) (list_all (is_allowed_sub features) types) allowed).1 found

no_supertypes : (type : SubType Index) (features : Features) → has features Gc ≡ false → is_allowed_sub features type ≡ true → type.supertypes ≡ []
no_supertypes type features off allowed =
    none_of type.supertypes
    (second_of type.is_final (nat_eq (length type.supertypes) 0) (has features Gc) off
    (both_true (type.is_final && nat_eq (length type.supertypes) 0 || has features Gc) (is_allowed_composite features type.composite_type) allowed).0)

-- ---- an interned group

module _ (canonical : ℕ → Bool) (features : Features) (ids : List ℕ) (old new : TypeTables) (group : RecGroup Index) (number : ℕ) (now : TablesAgree new) (none : RefersToNoModule new)
    (names : NamesModuleTypes group) (internable : CanBeInterned features ids old group) (at : IsGroupAt new number (canonical_members ids group)) (own : canonical number ≡ true) where
  abbrev context : List DefType
  context = types_of canonical new ids

  abbrev section : List DefType
  section = types_after context (in_section group)

  abbrev stands_for : Index → DefType
  stands_for = type_of_index canonical new

  context_count : length context ≡ length ids
  context_count = length-map ids (type_at _)

  count_is : length (canonical_members ids group) ≡ length (members group)
  count_is = ap length (members_mapped (canonical_index ids) group) ∙ length-map (members group) (sub_map (canonical_index ids))

  -- a type as it is interned
  abbrev as_interned : SubType Index → SubType Index
  as_interned type = sub_map (absolute at.start) (sub_map (canonical_index ids) type)

  interned_type : (place : ℕ) (type : SubType Index) → slice_get (members group) place ≡ Some type → slice_get (sub_types new) (at.start + place) ≡ Some (as_interned type)
  interned_type place type is =
      let less : place < length (canonical_members ids group) = omega (arith, slice_get_within (members group) place type is, count_is) in
      sym (get_drop at.start (sub_types new) place) ∙ sym (get_take (length (canonical_members ids group)) (drop at.start (sub_types new)) place less)
      ∙ ap (λ q. slice_get q place) (at.types ∙ ap (subs_map (absolute at.start)) (members_mapped (canonical_index ids) group))
      ∙ slice_get-map (sub_map (absolute at.start)) (subs_map (canonical_index ids) (members group)) place
      ∙ ap (option_map (sub_map (absolute at.start))) (slice_get-map (sub_map (canonical_index ids)) (members group) place ∙ ap (option_map (sub_map (canonical_index ids))) is)

  refs_of : (place : ℕ) (type : SubType Index) → slice_get (members group) place ≡ Some type
      → AllByRecursion (λ r. IsModuleIndex r × IsBelow (length ids + length (members group)) r) (sub_refs type)
  refs_of place type is =
      let bound = index_bound (has features Gc) (length ids) (length (members group)) in
      let Both : ℕ → Index → Type 0 = λ b r. IsModuleIndex r × IsBelow b r in
      let all = of_members (Both bound) group (both IsModuleIndex (IsBelow bound) (group_refs group) names internable.in_range) in
      all_weaker (Both bound) (Both (length ids + length (members group))) (below_more bound _ (bound_fits (has features Gc) (length ids) (length (members group)))) (sub_refs type)
      (of_type (Both bound) (members group) place type all is)

  same : (place : ℕ) (type : SubType Index) → slice_get (members group) place ≡ Some type → sub_map stands_for (as_interned type) ≡ sub_map (type_at section) (sub_map number_of type)
  same place type is = member_same canonical new now ids group names number at own type (refs_of place type is)

  is_in : (place : ℕ) → place < length (members group) → IsIn new number (at.start + place)
  is_in place less = record { range = range_after at.start (length (canonical_members ids group)); at = at.at; after = omega arith; before = omega (arith, less, count_is) }

  keeps_types : KeepsTypes stands_for (type_by_id new) unrolled
  keeps_types = ids_unroll new now none canonical

  carries : Carries stands_for (type_by_id new) unrolled
  carries = carried stands_for (type_by_id new) unrolled keeps_types

  -- a plain type of the group, by its place in the section's group
  plain_at : (place : ℕ) (type : SubType ℕ) → slice_get (syntax.members (in_section group)) place ≡ Some type
      → (plain : SubType Index) × (slice_get (members group) place ≡ Some plain) × (type ≡ sub_map number_of plain)
  plain_at place type is = mapped_at (sub_map number_of) (members group) place type (ap (λ q. slice_get q place) (sym (section_members group)) ∙ is)

  -- ---- accepted

  earlier_of : (place : ℕ) (plain : SubType Index) → slice_get (members group) place ≡ Some plain → AllByRecursion (λ n. n < length context + place) (map number_of plain.supertypes)
  earlier_of place plain is =
      let earlier = (have_at (length ids) (members group) place plain internable.supertypes is).earlier in
      let name = all_left IsModuleIndex plain.supertypes _ (of_type IsModuleIndex (members group) place plain (of_members IsModuleIndex group names) is) in
      let Both : Index → Type 0 = λ r. IsModuleIndex r × IsBelow (length ids + place) r in
      all_map Both (λ n. n < length context + place) number_of (λ r h. let below = below_number (length ids + place) r h in omega (arith, below, context_count)) plain.supertypes
      (both IsModuleIndex (IsBelow (length ids + place)) plain.supertypes name earlier)

  well_formed_at : KeepsRulesAndDepth new number → (place : ℕ) (type : SubType ℕ) → slice_get (syntax.members (in_section group)) place ≡ Some type → IsWellFormedAt section (length context + place) type
  well_formed_at kept place type is =
      let plain = plain_at place type is in
      let keeps = kept.rules (at.start + place) (is_in place (slice_get_within (members group) place plain.0 plain.1)) in
      let interned_as = interned_type place plain.0 plain.1 in
      let one : keeps.type ≡ as_interned plain.0 = let e = keeps.is in cc in
      let mapped : sub_map stands_for keeps.type ≡ sub_map (type_at section) type =
      ap (sub_map stands_for) one ∙ same place plain.0 plain.1 ∙ ap (sub_map (type_at section)) (sym plain.2) in
      record {
        earlier = subst (λ (t : SubType ℕ). AllByRecursion (λ n. n < length context + place) t.supertypes) (sym plain.2) (earlier_of place plain.0 plain.1);
        extends = subst (ExtendsSupertypes unrolled) mapped (carries.supertypes keeps.type keeps.extends);
        continues = subst (λ (t : SubType DefType). ContinuesFunc unrolled t.composite_type) mapped (carries.continuations keeps.type.composite_type keeps.continues);
      }

  pub keeps_rules : KeepsRulesAndDepth new number → KeepsGroupRules features context (in_section group)
  keeps_rules kept = record {
    allowed = same_gate number_of features group ∙ internable.allowed;
    in_range = in_range features context ids group context_count names internable.in_range;
    each = each_from section (length context) (syntax.members (in_section group)) (well_formed_at kept);
  }

  -- a type of the group, by its place
  own_at : (place : ℕ) (type : DefType) → slice_get (types_of_group context (in_section group)) place ≡ Some type
      → (place < length (members group)) × (type ≡ stands_for (Id (at.start + place)))
  own_at place type is =
      let members_count : length (syntax.members (in_section group)) ≡ length (members group) = ap length (section_members group) ∙ length-map (members group) (sub_map number_of) in
      let listed = length-places_of (tree_of context (in_section group)) 0 (syntax.members (in_section group)) in
      let less : place < length (members group) = omega (arith, slice_get_within (types_of_group context (in_section group)) place type is, listed, members_count) in
      let zero_add : 0 + place ≡ place = omega arith in
      let found = places_at (tree_of context (in_section group)) 0 (syntax.members (in_section group)) place (omega (arith, less, members_count))
      ∙ ap (λ p. Some (record { tree = tree_of context (in_section group); place = p })) zero_add in
      let one : type ≡ record { tree = tree_of context (in_section group); place = place } = cc in
      (less, one ∙ sym (own_by_id canonical new now ids group names number at own place less))

  -- a type is interned with as many items as it is written with
  as_many : (type : SubType Index) (limit : Limit) → items_in (as_interned type).composite_type limit ≡ items_in type.composite_type limit
  as_many type limit =
      items_in_map (absolute at.start) (composite_map (canonical_index ids) type.composite_type) limit ∙ items_in_map (canonical_index ids) type.composite_type limit

  pub keeps_limits : HaveFewItems (members group) → KeepsRulesAndDepth new number → IsWithinGroupLimits context (in_section group)
  keeps_limits few kept =
      all_by_place (λ type. (limit : Limit) → ¬ (PassesLimit unrolled type limit)) (types_of_group context (in_section group)) (λ place type is limit passes.
      let here = own_at place type is in
      let plain = get_some (members group) place here.0 in
      let back = limits_carried_back stands_for (type_by_id new) unrolled keeps_types (ids_closed new now none) in
      let few_at = all_get (λ (t : SubType Index). (l : Limit) → ¬ (IsPassedBy l (items_in t.composite_type l))) (members group) few place plain.0 plain.1 in
      passes_none new (at.start + place) (as_interned plain.0) (interned_type place plain.0 plain.1) (λ l many. few_at l (subst (IsPassedBy l) (as_many plain.0 l) many))
      (kept.depth (at.start + place) (is_in place here.0)) limit
      (back.limits (Id (at.start + place)) limit (as_interned plain.0, interned_type place plain.0 plain.1) (subst (λ t. PassesLimit unrolled t limit) here.1 passes)))

  -- ---- refused

  -- the place of an id of the group
  place_of : (id : ℕ) → IsIn new number id → (place : ℕ) × (id ≡ at.start + place) × (place < length (members group))
  place_of id is =
      let one : is.range ≡ range_after at.start (length (canonical_members ids group)) = let a = is.at in let b = at.at in cc in
      let after : at.start ≤ id = let h = is.after in omega (arith, h, ap (λ r. r.start) one) in
      let before : id < at.start + length (canonical_members ids group) = let h = is.before in omega (arith, h, ap (λ r. r.end) one) in
      (id - at.start, omega (arith, after), omega (arith, after, before, count_is))

  pub limit_passed : (id : ℕ) (limit : Limit) → IsIn new number id → PassesLimit (type_by_id new) (Id id) limit → PassesGroupLimit context (in_section group) limit
  limit_passed id limit is passes =
      let place = place_of id is in
      record {
        place = place.0;
        type = stands_for (Id (at.start + place.0));
        at = types_listed place.0 place.2;
        passes = subst (λ i. PassesLimit unrolled (stands_for (Id i)) limit) place.1 (carries.limits (Id id) limit passes);
      } where
        types_listed : (place : ℕ) → place < length (members group) → slice_get (types_of_group context (in_section group)) place ≡ Some (stands_for (Id (at.start + place)))
        types_listed place less =
            let members_count : length (syntax.members (in_section group)) ≡ length (members group) = ap length (section_members group) ∙ length-map (members group) (sub_map number_of) in
            let zero_add : 0 + place ≡ place = omega arith in
            places_at (tree_of context (in_section group)) 0 (syntax.members (in_section group)) place (omega (arith, less, members_count))
            ∙ ap (λ p. Some (record { tree = tree_of context (in_section group); place = p })) zero_add ∙ ap Some (sym (own_by_id canonical new now ids group names number at own place less))

  interned_alone : (place : ℕ) (plain : SubType Index) → slice_get (members group) place ≡ Some plain → needs_type_canonicalization features ≡ false → (as_interned plain).supertypes ≡ []
  interned_alone place plain is off =
      let empty = no_supertypes plain features (gc_off (has features FunctionReferences) (has features Gc) (has features StackSwitching) off) (allowed_sub features group plain place internable.allowed is) in
      ap (λ q. map (absolute at.start) (map (canonical_index ids) q)) empty

  pub no_rule_broken : (needs_type_canonicalization features ≡ true → AreFoundByKey canonical new) → (id : ℕ) → IsIn new number id → ¬ (KeepsRules new id) → ¬ (KeepsGroupRules features context (in_section group))
  no_rule_broken found id is breaks rules =
      let place = place_of id is in
      let plain = get_some (members group) place.0 place.2 in
      let listed : slice_get (syntax.members (in_section group)) place.0 ≡ Some (sub_map number_of plain.0) =
      ap (λ q. slice_get q place.0) (section_members group) ∙ slice_get-map (sub_map number_of) (members group) place.0 ∙ ap (option_map (sub_map number_of)) plain.1 in
      let well = each_at section (length context) (syntax.members (in_section group)) rules.each place.0 (sub_map number_of plain.0) listed in
      let mapped = sym (same place.0 plain.0 plain.1) in
      let interned_as : slice_get (sub_types new) id ≡ Some (as_interned plain.0) = ap (slice_get (sub_types new)) place.1 ∙ interned_type place.0 plain.0 plain.1 in
      let types : AreTypes (type_by_id new) (sub_refs (as_interned plain.0)) = ids_closed new now none (Id id) (as_interned plain.0) interned_as in
      let composite : AreTypes (type_by_id new) (composite_refs (as_interned plain.0).composite_type) = all_right _ (as_interned plain.0).supertypes _ types in
      let limits_back = limits_carried_back stands_for (type_by_id new) unrolled keeps_types (ids_closed new now none) in
      let extends_all = subst (ExtendsSupertypes unrolled) mapped well.extends in
      breaks (record {
        type = as_interned plain.0;
        is = interned_as;
        extends = extends_back place.0 plain.0 plain.1 types extends_all (needs_type_canonicalization features) refl;
        continues = limits_back.continuations (as_interned plain.0).composite_type composite (subst (λ (t : SubType DefType). ContinuesFunc unrolled t.composite_type) mapped well.continues);
      }) where
        extends_back : (place : ℕ) (plain : SubType Index) → slice_get (members group) place ≡ Some plain → AreTypes (type_by_id new) (sub_refs (as_interned plain))
            → ExtendsSupertypes unrolled (sub_map stands_for (as_interned plain)) → (needs : Bool) → needs_type_canonicalization features ≡ needs → ExtendsSupertypes (type_by_id new) (as_interned plain)
        extends_back place plain is types extends true on =
            (carried_back stands_for (type_by_id new) unrolled keeps_types (ids_closed new now none) (ids_one_to_one new now none canonical (found on))).supertypes (as_interned plain) types extends
        extends_back place plain is types extends false off = without (as_interned plain) (interned_alone place plain is off) where
          without : (type : SubType Index) → type.supertypes ≡ [] → ExtendsSupertypes (type_by_id new) type
          without type empty = record { at_most_one = omega (arith, ap length empty); each = subst (AllByRecursion _) (sym empty) tt }
