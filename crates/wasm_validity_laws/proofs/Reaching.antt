-- Whether declared links lead from one type of a module to another, decided by going up them.
use Rattle.std.proofs.Common.{◌≡◌, ℕ, zero, suc, ◌<◌, ◌≤◌, Bool, true, false, ◌||◌, List, [], ◌∷◌, map, length, Option, Some, None, refl, ap, sym, ◌∙◌, inl, inr, subst, arith, slice_get}
use Rattle.std.proofs.lemmas.Bool.{or_cases}
use Rattle.std.specs.List.{AllByRecursion, Contains, list_any}
use Rattle.wasm_spec.proofs.Closures.{same_defined}
use Rattle.wasm_spec.proofs.Elements.{contains_cases, contains_first, contains_more, contains_none}
use Rattle.wasm_spec.proofs.GroupTrees.{Stand}
use Rattle.wasm_spec.proofs.Places.{get_some}
use Rattle.wasm_spec.proofs.TypeOrders.{declared_link}
use Rattle.wasm_spec.specs.Groups.{IsWellFormedAt}
use Rattle.wasm_spec.specs.Subtyping.{Closure, same, step, Link}
use Rattle.wasm_spec.specs.Trees.{DefType, type_at, unrolled}
use Rattle.wasm_spec.specs.TypeReferences.{sub_map}
use Rattle.wasm_spec.specs.Types.{SubType}
use Rattle.wasm_validity_laws.proofs.SameTypes.{is_one, one_is, one_itself}
use Rattle.wasm_validity_laws.specs.TreeCodes.{def_type_code}

abbrev pub is_type : DefType → DefType → Bool
is_type type other = is_one def_type_code type other

abbrev pub supertypes_in : Option (SubType DefType) → List DefType
supertypes_in None = []
supertypes_in (Some type) = type.supertypes

-- by so many links at most
abbrev pub reaches : ℕ → DefType → DefType → Bool
reaches zero goal type = is_type type goal
reaches (suc n) goal type = is_type type goal || list_any (reaches n goal) (supertypes_in (unrolled type))

-- ---- lists

or_first : (a b : Bool) → a ≡ true → (a || b) ≡ true
or_first true b e = refl
or_first false b e = absurd cc

or_second : (a b : Bool) → b ≡ true → (a || b) ≡ true
or_second true b e = refl
or_second false b e = e

module _ (f : ℕ → DefType) (P : ℕ → Type 0) where
  -- an index that a test finds
  any_index : (test : DefType → Bool) (ks : List ℕ) → AllByRecursion P ks → list_any test (map f ks) ≡ true → (k : ℕ) × P k × Contains (map f ks) (f k) × (test (f k) ≡ true)
  any_index test [] all e = absurd cc
  any_index test (k ∷ ks) all e = elim (or_cases (test (f k)) (list_any test (map f ks)) e) [
    | inl one ↦ (k, all.0, contains_first (f k) (map f ks), one)
    | inr more ↦
        let found = any_index test ks all.1 more in
        (found.0, found.1, contains_more (f found.0) (f k) (map f ks) found.2, found.3)
  ]

  index_of : (ks : List ℕ) (type : DefType) → AllByRecursion P ks → Contains (map f ks) type → (k : ℕ) × P k × (f k ≡ type)
  index_of [] type all among = absurd (contains_none type among)
  index_of (k ∷ ks) type all among = elim (contains_cases type (f k) (map f ks) among) [
    | inl is ↦ (k, all.0, is)
    | inr more ↦ index_of ks type all.1 more
  ]

any_contains : (test : DefType → Bool) (xs : List DefType) (x : DefType) → Contains xs x → test x ≡ true → list_any test xs ≡ true
any_contains test [] x among e = absurd (contains_none x among)
any_contains test (y ∷ ys) x among e = elim (contains_cases x y ys among) [
  | inl is ↦ or_first (test y) (list_any test ys) (ap test is ∙ e)
  | inr more ↦ or_second (test y) (list_any test ys) (any_contains test ys x more e)
]

reach_itself : (n : ℕ) (type : DefType) → reaches n type type ≡ true
reach_itself zero type = one_itself def_type_code type
reach_itself (suc n) type = or_first (is_type type type) (list_any (reaches n type) (supertypes_in (unrolled type))) (one_itself def_type_code type)

-- ---- the types of a module

module _ (types : List DefType) (written : List (SubType ℕ)) (stands : Stand written types) (rules : (index : ℕ) (type : SubType ℕ) → slice_get written index ≡ Some type → IsWellFormedAt types index type) where
  abbrev stands_for : ℕ → DefType
  stands_for = type_at types

  same_type : (type goal : DefType) → is_type type goal ≡ true → Closure (Link unrolled) type goal
  same_type type goal e = subst (λ (other : DefType). Closure (Link unrolled) type other) (one_is def_type_code type goal e) same

  above : (index : ℕ) (type : SubType ℕ) → slice_get written index ≡ Some type → supertypes_in (unrolled (stands_for index)) ≡ map stands_for type.supertypes
  above index type at = ap supertypes_in (stands.unrolls index type at)

  link_at : (index k : ℕ) (type : SubType ℕ) → slice_get written index ≡ Some type → Contains (map stands_for type.supertypes) (stands_for k) → Link unrolled (stands_for index) (stands_for k)
  link_at index k type at among =
      declared_link unrolled (stands_for index) (stands_for k) (sub_map stands_for type) (stands.unrolls index type at) (rules index type at).extends
      (record { type = sub_map stands_for type; is = stands.unrolls index type at; among = among })

  pub reach_sound : (n : ℕ) (goal : DefType) (index : ℕ) → index < length types → reaches n goal (stands_for index) ≡ true → Closure (Link unrolled) (stands_for index) goal
  reach_sound zero goal index within e = same_type (stands_for index) goal e
  reach_sound (suc n) goal index within e = elim (or_cases (is_type (stands_for index) goal) (list_any (reaches n goal) (supertypes_in (unrolled (stands_for index)))) e) [
    | inl one ↦ same_type (stands_for index) goal one
    | inr up ↦
        let (type, at) = get_some written index (omega (arith, within, stands.lengths)) in
        let up' : list_any (reaches n goal) (map stands_for type.supertypes) ≡ true = ap (list_any (reaches n goal)) (sym (above index type at)) ∙ up in
        let found = any_index stands_for (λ k. k < index) (reaches n goal) type.supertypes (rules index type at).earlier up' in
        step (link_at index found.0 type at found.2) (reach_sound n goal found.0 (omega (arith, within, found.1)) found.3)
  ]

  -- an index that a link leads to
  linked : (index : ℕ) (type other : DefType) → index < length types → stands_for index ≡ type → Link unrolled type other
      → (k : ℕ) × (k < index) × (stands_for k ≡ other) × Contains (supertypes_in (unrolled type)) other
  linked index type other within is link =
      let (sub, at) = get_some written index (omega (arith, within, stands.lengths)) in
      let here : unrolled type ≡ Some (sub_map stands_for sub) = ap unrolled (sym is) ∙ stands.unrolls index sub at in
      let one : link.declared.type ≡ sub_map stands_for sub = same_defined unrolled type link.declared.type (sub_map stands_for sub) link.declared.is here in
      let among : Contains (map stands_for sub.supertypes) other = subst (λ (t : SubType DefType). Contains t.supertypes other) one link.declared.among in
      let found = index_of stands_for (λ k. k < index) sub.supertypes other (rules index sub at).earlier among in
      (found.0, found.1, found.2, subst (λ (found : Option (SubType DefType)). Contains (supertypes_in found) other) (sym here) among)

  pub reach_complete : {type goal : DefType} → Closure (Link unrolled) type goal → (n index : ℕ) → index ≤ n → index < length types → stands_for index ≡ type → reaches n goal type ≡ true
  reach_complete (same {x}) n index most within is = reach_itself n x
  reach_complete (step {x} {y} {z} link rest) zero index most within is =
      let found = linked index x y within is link in absurd (omega (arith, most, found.1))
  reach_complete (step {x} {y} {z} link rest) (suc n) index most within is =
      let found = linked index x y within is link in
      or_second (is_type x z) (list_any (reaches n z) (supertypes_in (unrolled x)))
      (any_contains (reaches n z) (supertypes_in (unrolled x)) y found.3 (reach_complete rest n found.0 (omega (arith, most, found.1)) (omega (arith, within, found.1)) found.2))
