-- A clone of a valid group is valid.
use Rattle.std.proofs.Common.{◌≡◌, ℕ, ◌+◌, ◌-◌, ◌<◌, ◌≤◌, Bool, true, false, List, [], ◌∷◌, ◌++◌, map, length, refl, ap, sym, ◌∙◌, arith, Option, Some, None, subst, inl, inr, append_assoc, length-append, if◌then◌else◌}
use Rattle.std.proofs.lemmas.Bool.{cases_lt, lt-ltb, le-ltb}
use Rattle.std.proofs.lemmas.Grind.{flat_map-append}
use Rattle.std.proofs.lemmas.List.{append-nil, length-map}
use Rattle.std.proofs.lemmas.Option.{slice_get_within, slice_get-map}
use Rattle.std.specs.List.{slice_get, list_all, AllByRecursion}
use Rattle.std.specs.Option.{option_map}
use Rattle.wasm_spec.specs.Features.{Features, Gc, has}
use Rattle.wasm_spec.specs.Gates.{is_allowed, is_allowed_storage, is_allowed_composite, is_allowed_sub, is_allowed_group}
use Rattle.wasm_spec.specs.Groups.{reference_bound}
use Rattle.wasm_spec.specs.ReferenceMaps.{KeepsTypes}
use Rattle.wasm_spec.specs.Syntax.{members}
use Rattle.wasm_spec.specs.TypeReferences.{val_map, storage_map, field_map, composite_map, sub_map, group_map, sub_refs, group_refs}
use Rattle.wasm_spec.specs.Types.{Abstract, Concrete, ValType, I32, I64, F32, F64, V128, Ref, StorageType, I8, I16, Val, CompositeType, FuncComposite, StructComposite, ArrayComposite, ContComposite, SubType, RecGroup, Single, Group}
use Rattle.wasm_spec.proofs.GroupTrees.{section_stands, all_each}
use Rattle.wasm_spec.proofs.MappedTypes.{all_map}
use Rattle.wasm_spec.proofs.Places.{get_left, get_right, get_cases}
use Rattle.wasm_spec.proofs.TypeMaps.{sub_map_agree, group_refs-map}
use Rattle.wasm_smith_types.specs.Clones.{shifted, clone_of}
use Rattle.wasm_smith_validity.specs.ValidGroups.{IsValidGroup, AreValidAfter, AreValidGroups, types_of}
use Rattle.wasm_smith_validity.proofs.GroupLaws.{sub_map-id, rules_moved, valid_in_range}

-- ---- gates don't ask to what references refer

list_all_map : {X Y : Type 0} (p : Y → Bool) (q : X → Bool) (h : X → Y) → ((x : X) → p (h x) ≡ q x) → (xs : List X) → list_all p (map h xs) ≡ list_all q xs
list_all_map p q h same [] = refl
list_all_map p q h same (x ∷ xs) = rw (same x, list_all_map p q h same xs) refl

module _ {R S : Type 0} (features : Features) (f : R → S) where
  allowed_val : (t : ValType R) → is_allowed features (val_map f t) ≡ is_allowed features t
  allowed_val I32 = refl
  allowed_val I64 = refl
  allowed_val F32 = refl
  allowed_val F64 = refl
  allowed_val V128 = refl
  allowed_val (Ref nullable (Abstract heap)) = refl
  allowed_val (Ref nullable (Concrete r)) = refl

  allowed_storage : (t : StorageType R) → is_allowed_storage features (storage_map f t) ≡ is_allowed_storage features t
  allowed_storage I8 = refl
  allowed_storage I16 = refl
  allowed_storage (Val t) = allowed_val t

  pub allowed_composite : (c : CompositeType R) → is_allowed_composite features (composite_map f c) ≡ is_allowed_composite features c
  allowed_composite (FuncComposite t) =
      rw
      (list_all_map (is_allowed features) (is_allowed features) (val_map f) allowed_val t.params, list_all_map (is_allowed features) (is_allowed features) (val_map f) allowed_val t.results, length-map t.results (val_map f)) refl
  allowed_composite (StructComposite fields) =
      rw
      (list_all_map (λ field. is_allowed_storage features field.element_type) (λ field. is_allowed_storage features field.element_type) (field_map f) (λ field. allowed_storage field.element_type) fields) refl
  allowed_composite (ArrayComposite field) = rw (allowed_storage field.element_type) refl
  allowed_composite (ContComposite r) = refl

  allowed_sub : (t : SubType R) → is_allowed_sub features (sub_map f t) ≡ is_allowed_sub features t
  allowed_sub t = rw (length-map t.supertypes f, allowed_composite t.composite_type) refl

  pub allowed_group : (group : RecGroup R) → is_allowed_group features (group_map f group) ≡ is_allowed_group features group
  allowed_group (Single t) = allowed_sub t
  allowed_group (Group types) = rw (list_all_map (is_allowed_sub features) (is_allowed_sub features) (sub_map f) allowed_sub types) refl

-- ---- the map of a clone

pub stays : (start by r : ℕ) → r < start → shifted start by r ≡ r
stays start by r h = rw (lt-ltb r start h) refl

pub moves : (start by r : ℕ) → start ≤ r → shifted start by r ≡ r + by
moves start by r h = rw (le-ltb r start h) refl

order_kept : (start by r s : ℕ) → r < s → shifted start by r < shifted start by s
order_kept start by r s h = elim (cases_lt r start) [
  | inl low ↦ elim (cases_lt s start) [
    | inl low' ↦ omega (arith, h, stays start by r low, stays start by s low')
    | inr high ↦ omega (arith, h, stays start by r low, moves start by s high)
  ]
  | inr high ↦ let high' : start ≤ s = omega (arith, h, high) in omega (arith, h, moves start by r high, moves start by s high')
]

pub members_map : (f : ℕ → ℕ) (group : RecGroup ℕ) → members (group_map f group) ≡ map (sub_map f) (members group)
members_map f (Single type) = refl
members_map f (Group types) = refl

pub from_option : {X Y : Type 0} (h : X → Y) (o : Option X) (y : Y) → option_map h o ≡ Some y → (x : X) × (o ≡ Some x) × (h x ≡ y)
from_option h (Some x) y e = (x, refl, cc)
from_option h None y e = absurd cc

-- ---- the clone

module _ (features : Features) (before : List (SubType ℕ)) (group : RecGroup ℕ) (others : List (SubType ℕ)) (closed : (r : ℕ) (type : SubType ℕ) → slice_get before r ≡ Some type → AllByRecursion (λ n. n < length before) (sub_refs type)) where
  abbrev now : List (SubType ℕ)
  now = before ++ (members group ++ others)

  abbrev by : ℕ
  by = length now - length before

  abbrev f : ℕ → ℕ
  f = shifted (length before) by

  longer : length before + by ≡ length now
  longer = omega (arith, length-append before (members group ++ others))

  clone_keeps : KeepsTypes f (slice_get (before ++ members group)) (slice_get (now ++ members (group_map f group)))
  clone_keeps r type is = elim (get_cases before (members group) r type is) [
    | inl at ↦
        let low : r < length before = slice_get_within before r type at in
        let kept : sub_map f type ≡ type =
        sub_map_agree 0 f (λ n. n) type
        (all_each (λ n. n < length before) (λ n. f n ≡ n) (λ n h. stays (length before) by n h) (sub_refs type) (closed r type at))
        ∙ sub_map-id type in
        let there : slice_get now r ≡ Some type = get_left before (members group ++ others) r low ∙ at in
        rw (stays (length before) by r low, kept) (get_left now (members (group_map f group)) r (slice_get_within now r type there) ∙ there)
    | inr at ↦
        let high : length before ≤ r = omega (arith, at.1) in
        let place : f r ≡ length now + at.0 = moves (length before) by r high ∙ omega (arith, at.1, longer) in
        rw (place, get_right now (members (group_map f group)) at.0, members_map f group, slice_get-map (sub_map f) (members group) at.0, at.2) refl
  ]

  bounds : (b : Bool) (n : ℕ) → n < (if b then length before + length (members group) else length before)
      → f n < (if b then length now + length (members (group_map f group)) else length now)
  bounds true n h =
      let same : length (members (group_map f group)) ≡ length (members group) = ap length (members_map f group) ∙ length-map (members group) (sub_map f) in
      elim (cases_lt n (length before)) [
        | inl low ↦ omega (arith, same, stays (length before) by n low, longer)
        | inr high ↦ omega (arith, same, h, moves (length before) by n high, longer)
      ]
  bounds false n h = omega (arith, h, stays (length before) by n h, longer)

  pub clone_valid : IsValidGroup features before group → IsValidGroup features now (group_map f group)
  clone_valid valid = record {
    allowed = allowed_group features f group ∙ valid.allowed;
    in_range =
        rw (group_refs-map f group)
        (all_map (λ n. n < reference_bound features (length before) group) (λ n. n < reference_bound features (length now) (group_map f group)) f (bounds (has features Gc)) (group_refs group) valid.in_range);
    rules = λ place type is.
        let got : slice_get (map (sub_map f) (members group)) place ≡ Some type = rw (members_map f group) at is in
        let (old, at, same) = from_option (sub_map f) (slice_get (members group) place) type (sym (slice_get-map (sub_map f) (members group) place) ∙ got) in
        let moved =
        rules_moved f (before ++ members group) (now ++ members (group_map f group)) clone_keeps (order_kept (length before) by) (length before + place) old
        (valid.rules place old at) in
        let index : f (length before + place) ≡ length now + place = moves (length before) by (length before + place) (omega arith) ∙ omega (arith, longer) in
        rw (index, same) at moved;
  }

-- ---- among valid groups

pub valid_middle : (features : Features) (ss : List (SubType ℕ)) (front back : List (RecGroup ℕ)) (group : RecGroup ℕ)
    → AreValidAfter features ss (front ++ group ∷ back) → AreValidAfter features ss front × IsValidGroup features (ss ++ types_of front) group
valid_middle features ss [] back group h = (tt, subst (λ ts. IsValidGroup features ts group) (sym (append-nil ss)) h.0)
valid_middle features ss (g ∷ front) back group h =
    let rest = valid_middle features (ss ++ members g) front back group h.1 in
    ((h.0, rest.0), subst (λ ts. IsValidGroup features ts group) (append_assoc ss (members g) (types_of front)) rest.1)

pub clone_of_valid : (features : Features) (front back : List (RecGroup ℕ)) (group : RecGroup ℕ) → AreValidGroups features (front ++ group ∷ back)
    → IsValidGroup features (types_of (front ++ group ∷ back)) (clone_of (length (types_of front)) (length (types_of (front ++ group ∷ back))) group)
clone_of_valid features front back group h =
    let parts = valid_middle features [] front back group h in
    let it = section_stands front (valid_in_range features front parts.0) in
    let closed : (r : ℕ) (type : SubType ℕ) → slice_get (types_of front) r ≡ Some type → AllByRecursion (λ n. n < length (types_of front)) (sub_refs type) =
    λ r type is. subst (λ m. AllByRecursion (λ n. n < m) (sub_refs type)) it.lengths (it.in_range r type is) in
    rw (flat_map-append members front (group ∷ back)) (clone_valid features (types_of front) group (types_of back) closed parts.1)
