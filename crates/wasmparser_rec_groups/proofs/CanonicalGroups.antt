-- Groups of a module in canonical form: what they refer to is known, and their types are below earlier ones of their own kind.
use Rattle.std.proofs.Common.{◌≡◌, ℕ, zero, suc, ◌+◌, ◌-◌, ◌<◌, ◌≤◌, Bool, true, false, ◌&&◌, List, [], ◌∷◌, ◌++◌, length, map, option_map, Some, None, inl, inr, refl, sym, ap, ◌∙◌, subst, arith}
use Rattle.std.proofs.lemmas.List.{length-map}
use Rattle.std.proofs.lemmas.Option.{slice_get-map, slice_get_within}
use Rattle.std.specs.List.{AllByRecursion, list_all, slice_get}
use Rattle.wasm_spec.proofs.MappedBack.{all_left, all_right}
use Rattle.wasm_spec.proofs.MappedTypes.{all_map}
use Rattle.wasm_spec.proofs.Places.{all_get, get_cases, get_either, get_left, get_right}
use Rattle.wasm_spec.proofs.TypeMaps.{subs_refs-map}
use Rattle.wasm_spec.specs.Features.{Features, Gc, has}
use Rattle.wasm_spec.specs.Subtyping.{IsOfKind, abstract_of}
use Rattle.wasm_spec.specs.TypeReferences.{composite_map, group_map, group_refs, sub_map, sub_refs, subs_map, subs_refs}
use Rattle.wasm_spec.specs.Types.{CompositeType, FuncComposite, StructComposite, ArrayComposite, ContComposite, SubType, RecGroup, Single, Group}
use Rattle.wasmparser_type_relations.specs.Chains.{AreBelowEarlier, IsBelowEarlier, below_none, below_one}
use Rattle.wasmparser_type_relations.specs.Canonical.{HasEarlierSupertype, HaveEarlierSupertypes, IsBelow, canonical_index, id_or_place, index_bound}
use Rattle.wasmparser_type_list.specs.TypeTables.{AreWithin, Interns, IsWithin, TypeTables, absolute, sub_types}
use Rattle.wasmparser_rec_groups.specs.Interning.{AreKnown, CanBeInterned, IsModuleIndex, NamesModuleTypes, canonical_members}
use Rattle.wasmparser_rec_groups.specs.Kinds.{HasSupertypesOfKind, earlier_or_own}
use Rattle.wasmparser_types.specs.Index.{Index, Module, RecGroup as Place, Id}
use Rattle.wasmparser_types.specs.RecGroups.{members}
use Rattle.wasmparser_types.specs.SubTypes.{sub_type}

-- ---- members and their references

pub members_mapped : (f : Index → Index) (group : RecGroup Index) → members (group_map f group) ≡ subs_map f (members group)
members_mapped f (Single type) = refl
members_mapped f (Group types) = refl

all_join : {X : Type 0} (P : X → Type 0) (xs ys : List X) → AllByRecursion P xs → AllByRecursion P ys → AllByRecursion P (xs ++ ys)
all_join P [] ys h k = k
all_join P (x ∷ xs) ys h k = (h.0, all_join P xs ys h.1 k)

pub of_members : (P : Index → Type 0) (group : RecGroup Index) → AllByRecursion P (group_refs group) → AllByRecursion P (subs_refs (members group))
of_members P (Single type) h = all_join P (sub_refs type) [] h tt
of_members P (Group types) h = h

both : {X : Type 0} (P Q : X → Type 0) (xs : List X) → AllByRecursion P xs → AllByRecursion Q xs → AllByRecursion (λ x. P x × Q x) xs
both P Q [] h k = tt
both P Q (x ∷ xs) h k = ((h.0, k.0), both P Q xs h.1 k.1)

-- the references of one type
pub of_type : (P : Index → Type 0) (types : List (SubType Index)) (place : ℕ) (type : SubType Index) → AllByRecursion P (subs_refs types) → slice_get types place ≡ Some type
    → AllByRecursion P (sub_refs type)
of_type P [] place type h at = absurd cc
of_type P (first ∷ types) zero type h at =
    let one : first ≡ type = cc in subst (λ t. AllByRecursion P (sub_refs t)) one (all_left P (sub_refs first) (subs_refs types) h)
of_type P (first ∷ types) (suc place) type h at = of_type P types place type (all_right P (sub_refs first) (subs_refs types) h) at

-- ---- a group in canonical form refers to what is known

module _ (before : ℕ) (ids : List ℕ) (known : AllByRecursion (λ id. id < before) ids) (count bound : ℕ) (fits : bound ≤ length ids + count) where
  canonical_within : (index : Index) → IsModuleIndex index × IsBelow bound index → IsWithin before count (canonical_index ids index)
  canonical_within (Module n) h = elim (get_either ids n) [
    | inl at ↦ subst (λ o. IsWithin before count (id_or_place o (n - length ids))) (sym at.1) (all_get (λ id. id < before) ids known n at.0 at.1)
    | inr past ↦
        let least = past.1.1 in
        let place : n - length ids < count = let below : n < bound = h.1 in omega (arith, below, fits, least) in
        subst (λ o. IsWithin before count (id_or_place o (n - length ids))) (sym past.0) place
  ]
  canonical_within (Place place) h = absurd h.0
  canonical_within (Id id) h = absurd h.0

bound_fits : (gc : Bool) (before count : ℕ) → index_bound gc before count ≤ before + count
bound_fits true before count = omega arith
bound_fits false before count = omega arith

pub within : (features : Features) (ids : List ℕ) (tables : TypeTables) (group : RecGroup Index) → AreKnown tables ids → NamesModuleTypes group → CanBeInterned features ids tables group
    → AreWithin (length tables.types) (canonical_members ids group)
within features ids tables group known names internable =
    let before = length tables.types in
    let count = length (members group) in
    let bound = index_bound (has features Gc) (length ids) count in
    let refs = of_members (λ index. IsModuleIndex index × IsBelow bound index) group (both IsModuleIndex (IsBelow bound) (group_refs group) names internable.in_range) in
    let all = all_map (λ index. IsModuleIndex index × IsBelow bound index) (IsWithin before count) (canonical_index ids)
    (canonical_within before ids known count bound (bound_fits (has features Gc) (length ids) count)) (subs_refs (members group)) refs in
    let mapped = members_mapped (canonical_index ids) group in
    let same_count : length (canonical_members ids group) ≡ count = ap length mapped ∙ length-map (members group) (sub_map (canonical_index ids)) in
    rw (same_count, mapped, subs_refs-map (canonical_index ids) (members group)) all

-- ---- supertypes of a group in canonical form

-- what was mapped at a place
pub mapped_at : {X Y : Type 0} (f : X → Y) (xs : List X) (i : ℕ) (y : Y) → slice_get (map f xs) i ≡ Some y → (x : X) × (slice_get xs i ≡ Some x) × (y ≡ f x)
mapped_at f [] i y e = absurd cc
mapped_at f (x ∷ xs) zero y e = (x, refl, cc)
mapped_at f (x ∷ xs) (suc i) y e = mapped_at f xs i y e

pub have_at : (first : ℕ) (types : List (SubType Index)) (place : ℕ) (type : SubType Index) → HaveEarlierSupertypes first types → slice_get types place ≡ Some type
    → HasEarlierSupertype (first + place) type
have_at first [] place type have e = absurd cc
have_at first (t ∷ types) zero type have e =
    let one : t ≡ type = cc in
    let here : first ≡ first + 0 = omega arith in
    subst (λ n. HasEarlierSupertype n type) here (subst (HasEarlierSupertype first) one have.0)
have_at first (t ∷ types) (suc place) type have e =
    let here : suc first + place ≡ first + suc place = omega arith in subst (λ n. HasEarlierSupertype n type) here (have_at (suc first) types place type have.1 e)

pub both_true : (a b : Bool) → (a && b) ≡ true → (a ≡ true) × (b ≡ true)
both_true true true h = (refl, refl)
both_true true false h = absurd cc
both_true false b h = absurd cc

pub test_at : {X : Type 0} (test : X → Bool) (xs : List X) (i : ℕ) (x : X) → list_all test xs ≡ true → slice_get xs i ≡ Some x → test x ≡ true
test_at test [] i x all e = absurd cc
test_at test (y ∷ xs) zero x all e = let one : y ≡ x = cc in subst (λ z. test z ≡ true) one (both_true (test y) (list_all test xs) all).0
test_at test (y ∷ xs) (suc i) x all e = test_at test xs i x (both_true (test y) (list_all test xs) all).1 e

pub same_abstract : {R S : Type 0} (f : R → S) (c : CompositeType R) → abstract_of (composite_map f c) ≡ abstract_of c
same_abstract f (FuncComposite c) = refl
same_abstract f (StructComposite c) = refl
same_abstract f (ArrayComposite c) = refl
same_abstract f (ContComposite c) = refl

module _ (old new : TypeTables) (group : List (SubType Index)) (types : sub_types new ≡ sub_types old ++ subs_map (absolute (length old.types)) group) where
  abbrev start : ℕ
  start = length old.types

  start_is : length (sub_types old) ≡ start
  start_is = length-map old.types _

  pub old_type : (id : ℕ) (type : SubType Index) → slice_get (sub_types old) id ≡ Some type → slice_get (sub_types new) id ≡ Some type
  old_type id type at = ap (λ q. slice_get q id) types ∙ get_left (sub_types old) (subs_map (absolute start) group) id (slice_get_within (sub_types old) id type at) ∙ at

  own_type : (place : ℕ) (type : SubType Index) → slice_get group place ≡ Some type → slice_get (sub_types new) (start + place) ≡ Some (sub_map (absolute start) type)
  own_type place type at =
      ap (λ q. slice_get q (start + place)) types ∙ ap (λ n. slice_get (sub_types old ++ subs_map (absolute start) group) (n + place)) (sym start_is)
      ∙ get_right (sub_types old) (subs_map (absolute start) group) place ∙ slice_get-map (sub_map (absolute start)) group place ∙ ap (option_map (sub_map (absolute start))) at

  pub still_below : (n : ℕ) (type : SubType Index) → IsBelowEarlier (slice_get (sub_types old)) n type → IsBelowEarlier (slice_get (sub_types new)) n type
  still_below n type (below_none none) = below_none none
  still_below n type (below_one t is lt kind) = below_one t is lt (record { type = kind.type; is = old_type t kind.type kind.is; holds = kind.holds })

  -- what a type of the group has above it
  module _ (ids : List ℕ) (place : ℕ) (type : SubType Index) (plain : SubType Index) (is : type ≡ sub_map (canonical_index ids) plain) (kinds : HasSupertypesOfKind (earlier_or_own old group) type)
      (names : AllByRecursion IsModuleIndex (sub_refs plain)) (earlier : HasEarlierSupertype (length ids + place) plain) where
    like_one : (r : Index) → type.supertypes ≡ r ∷ [] → IsOfKind (earlier_or_own old group) r (abstract_of type.composite_type)
    like_one r one = (subst (AllByRecursion (λ t. IsOfKind (earlier_or_own old group) t (abstract_of type.composite_type))) one kinds).0

    own_kind : abstract_of type.composite_type ≡ abstract_of (sub_map (absolute start) type).composite_type
    own_kind = sym (same_abstract (absolute start) type.composite_type)

    now_below : IsBelowEarlier (slice_get (sub_types new)) (start + place) (sub_map (absolute start) type)
    now_below = go plain.supertypes refl (all_left IsModuleIndex plain.supertypes _ names) where
      below_earlier : (n : ℕ) (id : ℕ) → plain.supertypes ≡ Module n ∷ [] → slice_get ids n ≡ Some id → IsBelowEarlier (slice_get (sub_types new)) (start + place) (sub_map (absolute start) type)
      below_earlier n id one at =
          let above : type.supertypes ≡ Id id ∷ [] = ap (λ (t : SubType Index). t.supertypes) is ∙ ap (map (canonical_index ids)) one ∙ ap (λ o. id_or_place o (n - length ids) ∷ []) at in
          let like = like_one (Id id) above in
          let less : id < start = omega (arith, slice_get_within (sub_types old) id like.type like.is, start_is) in
          below_one id (ap (map (absolute start)) above) (omega (arith, less)) (record { type = like.type; is = old_type id like.type like.is; holds = like.holds ∙ own_kind })

      below_own : (n q : ℕ) → plain.supertypes ≡ Module n ∷ [] → slice_get ids n ≡ None → n ≡ length ids + q → n < length ids + place
          → IsBelowEarlier (slice_get (sub_types new)) (start + place) (sub_map (absolute start) type)
      below_own n q one none past before =
          let q_is : n - length ids ≡ q = omega (arith, past) in
          let above : type.supertypes ≡ Place q ∷ [] =
          ap (λ (t : SubType Index). t.supertypes) is ∙ ap (map (canonical_index ids)) one ∙ ap (λ o. id_or_place o (n - length ids) ∷ []) none ∙ ap (λ k. Place k ∷ []) q_is in
          let like = like_one (Place q) above in
          below_one (start + q) (ap (map (absolute start)) above) (omega (arith, past, before))
          (record { type = sub_map (absolute start) like.type; is = own_type q like.type like.is; holds = same_abstract (absolute start) like.type.composite_type ∙ like.holds ∙ own_kind })

      go : (supertypes : List Index) → plain.supertypes ≡ supertypes → AllByRecursion IsModuleIndex supertypes → IsBelowEarlier (slice_get (sub_types new)) (start + place) (sub_map (absolute start) type)
      go [] none names =
          below_none (ap (λ (t : SubType Index). map (absolute start) t.supertypes) is ∙ ap (λ q. map (absolute start) (map (canonical_index ids) q)) none)
      go (Module n ∷ []) one names =
          let before : n < length ids + place = (subst (AllByRecursion (IsBelow (length ids + place))) one earlier.earlier).0 in
          elim (get_either ids n) [ inl at ↦ below_earlier n at.0 one at.1 | inr past ↦ below_own n past.1.0 one past.0 past.1.1 before ]
      go (Place q ∷ []) one names = absurd names.0
      go (Id id ∷ []) one names = absurd names.0
      go (r ∷ s ∷ more) many names = let few = earlier.at_most_one in absurd (omega (arith, few, ap length many))

module _ (features : Features) (ids : List ℕ) (old new : TypeTables) (group : RecGroup Index) (earlier : AreBelowEarlier (slice_get (sub_types old))) (names : NamesModuleTypes group)
    (internable : CanBeInterned features ids old group) where
  abbrev canonical : List (SubType Index)
  canonical = canonical_members ids group

  added_below : (types : sub_types new ≡ sub_types old ++ subs_map (absolute (length old.types)) canonical) (place : ℕ) (type : SubType Index) → slice_get canonical place ≡ Some type
      → IsBelowEarlier (slice_get (sub_types new)) (length old.types + place) (sub_map (absolute (length old.types)) type)
  added_below types place type at =
      let mapped = ap (λ q. slice_get q place) (sym (members_mapped (canonical_index ids) group)) ∙ at in
      let plain = mapped_at (sub_map (canonical_index ids)) (members group) place type mapped in
      now_below old new canonical types ids place type plain.0 plain.2 (all_get (HasSupertypesOfKind (earlier_or_own old canonical)) canonical internable.kinds place type at)
      (of_type IsModuleIndex (members group) place plain.0 (of_members IsModuleIndex group names) plain.1)
      (have_at (length ids) (members group) place plain.0 internable.supertypes plain.1)

  all_below : sub_types new ≡ sub_types old ++ subs_map (absolute (length old.types)) canonical → AreBelowEarlier (slice_get (sub_types new))
  all_below types n type at = elim (get_cases (sub_types old) (subs_map (absolute (length old.types)) canonical) n type (sym (ap (λ q. slice_get q n) types) ∙ at)) [
    | inl was ↦ still_below old new canonical types n type (earlier n type was)
    | inr added ↦
        let one = mapped_at (sub_map (absolute (length old.types))) canonical added.0 type added.2 in
        let n_is : length old.types + added.0 ≡ n = omega (arith, added.1, length-map old.types sub_type) in
        subst (λ m. IsBelowEarlier (slice_get (sub_types new)) m type) n_is
        (subst (IsBelowEarlier (slice_get (sub_types new)) (length old.types + added.0)) (sym one.2) (added_below types added.0 one.0 one.1))
  ]

  pub still_earlier : (is_canonical is_new : Bool) (number : ℕ) → Interns old new is_canonical canonical is_new number → AreBelowEarlier (slice_get (sub_types new))
  still_earlier is_canonical true number interned = all_below interned.adds.types
  still_earlier is_canonical false number interned = subst (λ t. AreBelowEarlier (slice_get (sub_types t))) (sym interned.1) earlier
