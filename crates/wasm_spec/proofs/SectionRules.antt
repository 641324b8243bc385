-- The types of a section whose groups keep the rules keep them among all of its types, and match what they are below.
use Rattle.std.proofs.Common.{◌≡◌, ℕ, zero, suc, ◌+◌, ◌<◌, List, [], ◌∷◌, ◌++◌, map, length, true, refl, ap, sym, ◌∙◌, arith, inl, inr, Some, subst, append_assoc}
use Rattle.std.proofs.lemmas.Option.{slice_get_within}
use Rattle.std.proofs.lemmas.List.{append-nil}
use Rattle.std.specs.List.{slice_get, AllByRecursion, flat_map}
use Rattle.wasm_spec.specs.Features.{Features}
use Rattle.wasm_spec.specs.Gates.{is_allowed_group}
use Rattle.wasm_spec.specs.Groups.{ExtendsSupertypes, ContinuesFunc, IsWellFormedAt, AreWellFormedFrom, reference_bound, AllGroups, KeepGroupRules}
use Rattle.wasm_spec.specs.Matching.{CompositeMatches}
use Rattle.wasm_spec.specs.Subtyping.{HeapBelow}
use Rattle.wasm_spec.specs.Syntax.{members}
use Rattle.wasm_spec.specs.TypeReferences.{sub_map, sub_refs}
use Rattle.wasm_spec.specs.Trees.{DefType, RefersBelow, tree_of, types_of_group, types_after, types_from, section_types, type_at, unrolled}
use Rattle.wasm_spec.specs.Types.{Concrete, SubType, RecGroup}
use Rattle.wasm_spec.proofs.Closures.{same_defined}
use Rattle.wasm_spec.proofs.GroupTrees.{Stand, stand_after, section_stands, type_kept, all_each}
use Rattle.wasm_spec.proofs.Places.{get_cases, get_left, get_right, get_some}
use Rattle.wasm_spec.proofs.SectionTypes.{bound_in_range, rules_in_range, groups_in_range, types_from_more}
use Rattle.wasm_spec.proofs.TypeMaps.{sub_map_agree}
use Rattle.wasm_spec.proofs.TypeOrders.{below_matches}

-- the sub types ss keep the rules among the types ts
abbrev KeepRules : List (SubType ℕ) → List DefType → Type 0
KeepRules ss ts = (i : ℕ) (s : SubType ℕ) → slice_get ss i ≡ Some s → IsWellFormedAt ts i s

rules_at : (ts : List DefType) (index : ℕ) (types : List (SubType ℕ)) → AreWellFormedFrom ts index types → (j : ℕ) (s : SubType ℕ) → slice_get types j ≡ Some s → IsWellFormedAt ts (index + j) s
rules_at ts index [] h j s e = absurd cc
rules_at ts index (type ∷ types) h zero s e =
    let one : type ≡ s = cc in
    let zero_added : index ≡ index + 0 = omega arith in
    let P : SubType ℕ → Type 0 = λ q. IsWellFormedAt ts index q in
    let Q : ℕ → Type 0 = λ i. IsWellFormedAt ts i s in
    subst Q zero_added (subst P one h.0)
rules_at ts index (type ∷ types) h (suc j) s e =
    let added : suc index + j ≡ index + suc j = omega arith in
    let Q : ℕ → Type 0 = λ i. IsWellFormedAt ts i s in
    subst Q added (rules_at ts (suc index) types h.1 j s e)

-- with more types after them, types are what they were
same_after : (ts us : List DefType) (s : SubType ℕ) → DefType → AllByRecursion (λ n. n < length ts) (sub_refs s) → sub_map (type_at (ts ++ us)) s ≡ sub_map (type_at ts) s
same_after ts us s d refs =
    sub_map_agree d (type_at (ts ++ us)) (type_at ts) s (all_each (λ n. n < length ts) (λ n. type_at (ts ++ us) n ≡ type_at ts n) (type_kept ts us) (sub_refs s) refs)

rules_among : (ts us : List DefType) (i : ℕ) (s : SubType ℕ) → sub_map (type_at ts) s ≡ sub_map (type_at us) s → IsWellFormedAt ts i s → IsWellFormedAt us i s
rules_among ts us i s kept h =
    let P : SubType DefType → Type 0 = λ q. ExtendsSupertypes unrolled q in
    let Q : SubType DefType → Type 0 = λ q. ContinuesFunc unrolled q.composite_type in
    record { earlier = h.earlier; extends = subst P kept h.extends; continues = subst Q kept h.continues }

rules_from : (features : Features) (gs : List (RecGroup ℕ)) (ss : List (SubType ℕ)) (ts : List DefType) → Stand ss ts → KeepRules ss ts → KeepGroupRules features ts gs → KeepRules (ss ++ flat_map members gs) (types_from ts gs)
rules_from features [] ss ts it rules h = rw (append-nil ss) rules
rules_from features (g ∷ gs) ss ts it rules h =
    let next : KeepRules (ss ++ members g) (types_after ts g) = λ i s e. elim (get_cases ss (members g) i s e) [
      | inl at ↦ rules_among ts (types_after ts g) i s (sym (same_after ts (types_of_group ts g) s (record { tree = tree_of ts g; place = 0 }) (it.in_range i s at))) (rules i s at)
      | inr at ↦
          let i_is : length ts + at.0 ≡ i = omega (arith, at.1, it.lengths) in
          let Q : ℕ → Type 0 = λ n. IsWellFormedAt (types_after ts g) n s in
          subst Q i_is (rules_at (types_after ts g) (length ts) (members g) h.0.each at.0 s at.2)
    ] in
    rw (← append_assoc ss (members g) (flat_map members gs))
    (rules_from features gs (ss ++ members g) (types_after ts g) (stand_after it g (rules_in_range features ts g h.0)) next h.1)

all_well_formed : (ts : List DefType) (index : ℕ) (types : List (SubType ℕ)) → ((j : ℕ) (s : SubType ℕ) → slice_get types j ≡ Some s → IsWellFormedAt ts (index + j) s) → AreWellFormedFrom ts index types
all_well_formed ts index [] h = tt
all_well_formed ts index (type ∷ types) h =
    let Q : ℕ → Type 0 = λ i. IsWellFormedAt ts i type in
    let R : SubType ℕ → ℕ → Type 0 = λ s i. IsWellFormedAt ts i s in
    let none_added : index + 0 ≡ index = omega arith in
    (subst Q none_added (h 0 type refl), all_well_formed ts (suc index) types (λ j s e. let added : index + suc j ≡ suc index + j = omega arith in subst (R s) added (h (suc j) s e)))

-- a group's gates are kept, and its references are in range
abbrev IsAllowedInRange : Features → List DefType → RecGroup ℕ → Type 0
IsAllowedInRange features before group =
    (is_allowed_group features group ≡ true) × RefersBelow (reference_bound features (length before) group) group

group_rules_from : (features : Features) (gs : List (RecGroup ℕ)) (ss : List (SubType ℕ)) (ts : List DefType) → Stand ss ts → AllGroups (IsAllowedInRange features) ts gs → KeepRules (ss ++ flat_map members gs) (types_from ts gs) → KeepGroupRules features ts gs
group_rules_from features [] ss ts it h rules = tt
group_rules_from features (g ∷ gs) ss ts it h rules =
    let more = types_from_more gs (types_after ts g) in
    let next : Stand (ss ++ members g) (types_after ts g) = stand_after it g (bound_in_range features (length ts) g h.0.1) in
    let all : KeepRules ((ss ++ members g) ++ flat_map members gs) (types_from (types_after ts g) gs) =
    rw (append_assoc ss (members g) (flat_map members gs)) rules in
    let here : (j : ℕ) (s : SubType ℕ) → slice_get (members g) j ≡ Some s → IsWellFormedAt (types_after ts g) (length ts + j) s =
    λ j s e.
    let i = length ss + j in
    let at : slice_get (ss ++ members g) i ≡ Some s = get_right ss (members g) j ∙ e in
    let at' : slice_get ((ss ++ members g) ++ flat_map members gs) i ≡ Some s =
    get_left (ss ++ members g) (flat_map members gs) i (slice_get_within (ss ++ members g) i s at) ∙ at in
    let P : List DefType → Type 0 = λ q. IsWellFormedAt q i s in
    let Q : ℕ → Type 0 = λ n. IsWellFormedAt (types_after ts g) n s in
    let place : length ss + j ≡ length ts + j = omega (arith, it.lengths) in
    subst Q place (rules_among (types_after ts g ++ more.0) (types_after ts g) i s (same_after (types_after ts g) more.0 s (record { tree = tree_of ts g; place = 0 }) (next.in_range i s at)) (subst P more.1 (all i s at'))) in (
      record { allowed = h.0.0; in_range = h.0.1; each = all_well_formed (types_after ts g) (length ts) (members g) here },
      group_rules_from features gs (ss ++ members g) (types_after ts g) next h.1 all,
    )

pub group_rules : (features : Features) (gs : List (RecGroup ℕ)) → AllGroups (IsAllowedInRange features) [] gs → KeepRules (flat_map members gs) (section_types gs) → KeepGroupRules features [] gs
group_rules features gs h rules =
    let nothing : Stand [] [] = record { lengths = refl; in_range = λ i s e. absurd cc; unrolls = λ i s e. absurd cc } in
    group_rules_from features gs [] [] nothing h rules

pub section_rules : (features : Features) (gs : List (RecGroup ℕ)) → KeepGroupRules features [] gs → KeepRules (flat_map members gs) (section_types gs)
section_rules features gs h =
    let nothing : Stand [] [] = record { lengths = refl; in_range = λ i s e. absurd cc; unrolls = λ i s e. absurd cc } in
    rules_from features gs [] [] nothing (λ i s e. absurd cc) h

-- a type of the section
record IsOf (gs : List (RecGroup ℕ)) (type : DefType) : Type 0 where
  index : ℕ
  within : index < length (flat_map members gs)
  is : type_at (section_types gs) index ≡ type

supertypes_of : (gs : List (RecGroup ℕ)) (n : ℕ) → n < length (flat_map members gs) → (is : List ℕ) → AllByRecursion (λ i. i < n) is → AllByRecursion (IsOf gs) (map (type_at (section_types gs)) is)
supertypes_of gs n h [] all = tt
supertypes_of gs n h (i ∷ is) all = (record { index = i; within = omega (arith, h, all.0); is = refl }, supertypes_of gs n h is all.1)

pub section_matches : (features : Features) (gs : List (RecGroup ℕ)) → KeepGroupRules features [] gs → (i j : ℕ) (a b : SubType ℕ) → slice_get (flat_map members gs) i ≡ Some a → slice_get (flat_map members gs) j ≡ Some b → HeapBelow unrolled (Concrete (type_at (section_types gs) i)) (Concrete (type_at (section_types gs) j)) → CompositeMatches unrolled (sub_map (type_at (section_types gs)) a).composite_type (sub_map (type_at (section_types gs)) b).composite_type
section_matches features gs h i j a b at at' below =
    let it = section_stands gs (groups_in_range features [] gs h) in
    let f = type_at (section_types gs) in
    below_matches unrolled (IsOf gs) rules (f i) (f j) (record { index = i; within = slice_get_within (flat_map members gs) i a at; is = refl }) below (sub_map f a) (sub_map f b) (it.unrolls i a at) (it.unrolls j b at')
  where
    rules : (r : DefType) (type : SubType DefType) → IsOf gs r → unrolled r ≡ Some type → ExtendsSupertypes unrolled type × AllByRecursion (IsOf gs) type.supertypes
    rules r type known is =
        let it = section_stands gs (groups_in_range features [] gs h) in
        let f = type_at (section_types gs) in
        let (s, at) = get_some (flat_map members gs) known.index known.within in
        let rule = section_rules features gs h known.index s at in
        let here : unrolled r ≡ Some (sub_map f s) = ap unrolled (sym known.is) ∙ it.unrolls known.index s at in
        let one : sub_map f s ≡ type = same_defined unrolled r (sub_map f s) type here is in
        let P : SubType DefType → Type 0 = λ q. ExtendsSupertypes unrolled q × AllByRecursion (IsOf gs) q.supertypes in
        subst P one (rule.extends, supertypes_of gs known.index known.within s.supertypes rule.earlier)
