-- Groups that are valid by index keep the rules over trees.
use Rattle.std.proofs.Common.{◌≡◌, ℕ, ◌<◌, ◌≤◌, true, List, [], ◌∷◌, ◌++◌, map, length, refl, ap, sym, ◌∙◌, arith, Option, Some, subst, inl, inr, append_assoc, length-append}
use Rattle.std.proofs.lemmas.List.{append-nil}
use Rattle.std.proofs.lemmas.Option.{slice_get_within}
use Rattle.std.specs.List.{AllByRecursion, slice_get, Contains}
use Rattle.std.specs.Option.{unwrap_or}
use Rattle.wasm_spec.specs.Features.{Features}
use Rattle.wasm_spec.specs.Gates.{is_allowed_group}
use Rattle.wasm_spec.specs.Groups.{Extends, ExtendsSupertypes, Links, no_link, one_more, HasDepth, PassesLimit, AllGroups, KeepGroupRules, reference_bound}
use Rattle.wasm_spec.specs.Limits.{Depth}
use Rattle.wasm_spec.specs.ReferenceMaps.{KeepsTypes}
use Rattle.wasm_spec.specs.Syntax.{members}
use Rattle.wasm_spec.specs.Trees.{DefType, RefersBelow, AreInRange, section_types, types_after, type_at, no_type, unrolled}
use Rattle.wasm_spec.specs.Matching.{CompositeMatches}
use Rattle.wasm_spec.specs.Subtyping.{SubTypes, IsOfKind, RefBelow, abstract_of}
use Rattle.wasm_spec.specs.TypeReferences.{ref_map, sub_map, subs_map, subs_refs}
use Rattle.wasm_spec.specs.Types.{RefType, SubType, RecGroup, CompositeType, FuncComposite, StructComposite, ArrayComposite, ContComposite}
use Rattle.wasm_spec.proofs.Carried.{carried, limits_carried_back}
use Rattle.wasm_spec.proofs.Elements.{contains_none, contains_cases}
use Rattle.wasm_spec.proofs.GroupTrees.{length-types_after, section_count}
use Rattle.wasm_spec.proofs.Places.{get_some, get_left, get_cases}
use Rattle.wasm_spec.proofs.SectionRules.{group_rules}
use Rattle.wasm_spec.proofs.SectionTypes.{section_keeps, section_closed, bound_in_range}
use Rattle.wasm_spec.proofs.TypeLimits.{depth_zero, depth_suc, depth_passed}
use Rattle.wasm_spec.proofs.MappedTypes.{all_map}
use Rattle.wasm_spec.proofs.TypeMaps.{same_subs, subs_map-subs_map, subs_refs-map}
use Rattle.wasm_smith_validity.specs.Linked.{IsLinked, AreLinked}
use Rattle.wasm_smith_validity.specs.ValidGroups.{KeepsTypeRules, AllKeepTypeRules, IsValidGroup, AreValidAfter, AreValidGroups, types_of, entry}

-- ---- maps of references

map-id : (xs : List ℕ) → map (λ x. x) xs ≡ xs
map-id [] = refl
map-id (x ∷ xs) = rw (map-id xs) refl

-- the map that changes nothing
pub sub_map-id : (type : SubType ℕ) → sub_map (λ r. r) type ≡ type
sub_map-id type =
    let one : subs_map (λ r. r) (type ∷ []) ≡ type ∷ [] =
    same_subs 0 (subs_map (λ r. r) (type ∷ [])) (type ∷ []) (subs_map-subs_map (λ _. tt {0}) (λ r. r) (type ∷ []))
    (subs_refs-map (λ r. r) (type ∷ []) ∙ map-id (subs_refs (type ∷ []))) in
    cc

pub more_keep : (ts us : List (SubType ℕ)) → KeepsTypes (λ r. r) (slice_get ts) (slice_get (ts ++ us))
more_keep ts us r type is = get_left ts us r (slice_get_within ts r type is) ∙ is ∙ ap Some (sym (sub_map-id type))

-- rules go along with a map of references that keeps types and order
pub rules_moved : (f : ℕ → ℕ) (ts us : List (SubType ℕ)) → KeepsTypes f (slice_get ts) (slice_get us) → ((r s : ℕ) → r < s → f r < f s)
    → (index : ℕ) (type : SubType ℕ) → KeepsTypeRules ts index type → KeepsTypeRules us (f index) (sub_map f type)
rules_moved f ts us keeps order index type rules =
    let along = carried f (slice_get ts) (slice_get us) keeps in
    let (height, high, few) = rules.depth in
    record {
      earlier = all_map (λ s. s < index) (λ s. s < f index) f (λ s h. order s index h) type.supertypes rules.earlier;
      extends = along.supertypes type rules.extends;
      continues = along.continuations type.composite_type rules.continues;
      depth =
          (height, record { top = f high.top; links = along.depth height index high.top high.links; type = sub_map f high.type; is = keeps high.top high.type high.is; none = ap (map f) high.none }, few);
    }

pub rules_with_more : (ts us : List (SubType ℕ)) (index : ℕ) (type : SubType ℕ) → KeepsTypeRules ts index type → KeepsTypeRules (ts ++ us) index type
rules_with_more ts us index type rules =
    subst (KeepsTypeRules (ts ++ us) index) (sub_map-id type) (rules_moved (λ r. r) ts (ts ++ us) (more_keep ts us) (λ r s h. h) index type rules)

-- ---- all types of groups

pub rules_after : (features : Features) (before : List (SubType ℕ)) (group : RecGroup ℕ) → AllKeepTypeRules before → IsValidGroup features before group
    → AllKeepTypeRules (before ++ members group)
rules_after features before group rules valid index type is = elim (get_cases before (members group) index type is) [
  | inl at ↦ rules_with_more before (members group) index type (rules index type at)
  | inr at ↦ subst (λ i. KeepsTypeRules (before ++ members group) i type) (sym at.1) (valid.rules at.0 type at.2)
]

rules_from : (features : Features) (before : List (SubType ℕ)) (groups : List (RecGroup ℕ)) → AllKeepTypeRules before → AreValidAfter features before groups
    → AllKeepTypeRules (before ++ types_of groups)
rules_from features before [] rules h = subst AllKeepTypeRules (sym (append-nil before)) rules
rules_from features before (group ∷ groups) rules h =
    subst AllKeepTypeRules (append_assoc before (members group) (types_of groups))
    (rules_from features (before ++ members group) groups (rules_after features before group rules h.0) h.1)

pub all_rules : (features : Features) (groups : List (RecGroup ℕ)) → AreValidGroups features groups → AllKeepTypeRules (types_of groups)
all_rules features groups h = rules_from features [] groups (λ index type is. absurd cc) h

in_range_from : (features : Features) (before : List (SubType ℕ)) (groups : List (RecGroup ℕ)) → AreValidAfter features before groups
    → AreInRange (length before) groups
in_range_from features before [] h = tt
in_range_from features before (group ∷ groups) h =
    (bound_in_range features (length before) group h.0.in_range, rw (length-append before (members group)) at (in_range_from features (before ++ members group) groups h.1))

gates_kept : (features : Features) (ss : List (SubType ℕ)) (before : List DefType) (groups : List (RecGroup ℕ)) → length before ≡ length ss
    → AreValidAfter features ss groups
    → AllGroups (λ ts g. (is_allowed_group features g ≡ true) × RefersBelow (reference_bound features (length ts) g) g) before groups
gates_kept features ss before [] same h = tt
gates_kept features ss before (group ∷ groups) same h =
    ((h.0.allowed, rw same h.0.in_range), gates_kept features (ss ++ members group) (types_after before group) groups (omega (arith, length-types_after before group, length-append ss (members group))) h.1)

pub valid_in_range : (features : Features) (groups : List (RecGroup ℕ)) → AreValidGroups features groups → AreInRange 0 groups
valid_in_range features groups valid = in_range_from features [] groups valid

pub valid_rules : (features : Features) (groups : List (RecGroup ℕ)) → AreValidGroups features groups → KeepGroupRules features [] groups
valid_rules features groups valid =
    let f = type_at (section_types groups) in
    let along = carried f (slice_get (types_of groups)) unrolled (section_keeps groups (valid_in_range features groups valid)) in
    group_rules features groups (gates_kept features [] [] groups refl valid)
    (λ index type is.
    let kept = all_rules features groups valid index type is in
    record { earlier = kept.earlier; extends = along.supertypes type kept.extends; continues = along.continuations type.composite_type kept.continues })

pub trees_below : (features : Features) (groups : List (RecGroup ℕ)) (low high : RefType ℕ) → AreValidGroups features groups
    → RefBelow (slice_get (types_of groups)) low high
    → RefBelow unrolled (ref_map (type_at (section_types groups)) low) (ref_map (type_at (section_types groups)) high)
trees_below features groups low high valid h =
    let f = type_at (section_types groups) in
    (carried f (slice_get (types_of groups)) unrolled (section_keeps groups (valid_in_range features groups valid))).ref_types low high h

-- ---- what the test of subtyping asks

-- types that match are of one kind
matches_kind : (sub_at : SubTypes ℕ) (a b : CompositeType ℕ) → CompositeMatches sub_at a b → abstract_of b ≡ abstract_of a
matches_kind sub_at (FuncComposite a) (FuncComposite b) m = refl
matches_kind sub_at (StructComposite xs) (StructComposite ys) m = refl
matches_kind sub_at (ArrayComposite a) (ArrayComposite b) m = refl
matches_kind sub_at (ContComposite r) (ContComposite t) m = refl
matches_kind sub_at _ _ m = absurd m

same_kinds : (sub_at : SubTypes ℕ) (type : SubType ℕ) (ts : List ℕ) → AllByRecursion (Extends sub_at type) ts
    → AllByRecursion (λ t. IsOfKind sub_at t (abstract_of type.composite_type)) ts
same_kinds sub_at type [] each = tt
same_kinds sub_at type (t ∷ ts) each = (
  record {
    type = each.0.supertype;
    is = each.0.is;
    holds = matches_kind sub_at type.composite_type each.0.supertype.composite_type each.0.matches;
  },
  same_kinds sub_at type ts each.1,
)

pub linked_of_rule : (types : List (SubType ℕ)) (index : ℕ) (type : SubType ℕ) → KeepsTypeRules types index type → IsLinked types index type
linked_of_rule types index type kept =
    record { kinds = same_kinds (slice_get types) type type.supertypes kept.extends.each; depth = kept.depth }

pub linked_of_rules : (types : List (SubType ℕ)) → AllKeepTypeRules types → AreLinked types
linked_of_rules types rules index type is = linked_of_rule types index type (rules index type is)

-- ---- groups as they are written

pub entry_members : (types : List (SubType ℕ)) → members (entry types) ≡ types
entry_members [] = refl
entry_members (t ∷ []) = refl
entry_members (t ∷ u ∷ types) = refl

-- ---- depth

module _ {R : Type 0} (sub_at : R → Option (SubType R)) (one : (r : R) (type : SubType R) → sub_at r ≡ Some type → ExtendsSupertypes sub_at type) where
  only : (t : R) (ts : List R) → length ts ≤ 1 → Contains ts t → ts ≡ t ∷ []
  only t [] few h = absurd (contains_none t h)
  only t (s ∷ []) few h = elim (contains_cases t s [] h) [ inl e ↦ rw e refl | inr more ↦ absurd (contains_none t more) ]
  only t (s ∷ u ∷ ts) few h = absurd (omega (arith, few))

  -- the links to a type without supertypes are all that there are
  pub depth_of : {n : ℕ} {r t : R} → Links sub_at n r t → (type : SubType R) → sub_at t ≡ Some type → type.supertypes ≡ [] → HasDepth sub_at r n
  depth_of (no_link {r}) type is none = depth_zero sub_at r type is none
  depth_of (one_more {n} {r} {s} {t} d more) type is none =
      depth_suc sub_at r s d.type n d.is (only s d.type.supertypes (one r d.type d.is).at_most_one d.among) (depth_of more type is none)

pub valid_depth : (features : Features) (groups : List (RecGroup ℕ)) (index : ℕ) (type : DefType) → AreValidGroups features groups
    → slice_get (section_types groups) index ≡ Some type → PassesLimit unrolled type Depth → ⊥
valid_depth features groups index type valid at passes =
    let f = type_at (section_types groups) in
    let types = types_of groups in
    let range = valid_in_range features groups valid in
    let within : index < length types = omega (arith, section_count groups, slice_get_within (section_types groups) index type at) in
    let (sub, is) = get_some types index within in
    let back = limits_carried_back f (slice_get types) unrolled (section_keeps groups range) (section_closed groups range) in
    let same : type ≡ f index = sym (ap (λ q. unwrap_or q no_type) at) in
    let here : PassesLimit (slice_get types) index Depth = back.limits index Depth (sub, is) (subst (λ t. PassesLimit unrolled t Depth) same passes) in
    let (height, high, few) = (all_rules features groups valid index sub is).depth in
    let deep = depth_of (slice_get types) (λ r s e. (all_rules features groups valid r s e).extends) high.links high.type high.is high.none in
    let more : 63 < height = (depth_passed (slice_get types) index height deep).0 here in
    omega (arith, few, more)
