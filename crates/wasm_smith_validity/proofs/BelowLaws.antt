-- The test of subtyping.
use Rattle.std.proofs.Common.{◌≡◌, ◌↔◌, ◌⊎◌, ℕ, suc, ◌+◌, ◌≤◌, Bool, true, List, [], ◌∷◌, Option, Some, None, IsTrue, map, inl, inr, refl, sym, ap, ◌∙◌, arith, subst}
use Rattle.std.specs.List.{Contains}
use Rattle.std.specs.Option.{option_to_list}
use Rattle.wasm_core_types.specs.SubTypes.{sub_type}
use Rattle.wasm_core_types.specs.declared.types.SubType.{SubType}
use Rattle.wasm_spec.specs.Groups.{Links, no_link, one_more}
use Rattle.wasm_spec.specs.Subtyping.{Closure, same, step, Declared, Link, HeapBelow, IsOfKind, abstract_of, bottom_of, is_abstract_below}
use Rattle.wasm_spec.specs.Types as spec
use Rattle.wasm_spec.specs.Types.{AbstractHeapType, Func, NoFunc, NoCont, Abstract, Concrete, RefType, CompositeType, FuncComposite, StructComposite, ArrayComposite, ContComposite}
use Rattle.wasm_spec.proofs.Closures.{joined, sound, complete, same_defined}
use Rattle.wasm_spec.proofs.Elements.{all_contains, contains_cases, contains_none}
use Rattle.wasm_smith_validity.specs.Below.{seen}
use Rattle.wasm_smith_validity.specs.Linked.{IsLinked, AreLinked}
use Rattle.wasm_smith_validity.specs.ValidGroups.{HasHeight}
use Rattle.wasm_smith_validity.proofs.WalkLaws.{declared_at}

-- ---- first steps

first_link : {R : Type 0} (sub_at : R → Option (spec.SubType R)) {x z : R} → Closure (Link sub_at) x z
    → (x ≡ z) ⊎ ((y : R) × Link sub_at x y × Closure (Link sub_at) y z)
first_link sub_at same = inl refl
first_link sub_at (step {x} {y} {z} l p) = inr (y, l, p)

-- links are none, or go on from a declared supertype
data FirstOf {R : Type 0} (sub_at : R → Option (spec.SubType R)) (n : ℕ) (r t : R) : Type 0 where
  nothing : n ≡ 0 → r ≡ t → FirstOf sub_at n r t
  first : (m : ℕ) (s : R) → n ≡ suc m → Declared sub_at r s → Links sub_at m s t → FirstOf sub_at n r t

first_of : {R : Type 0} (sub_at : R → Option (spec.SubType R)) {n : ℕ} {r t : R} → Links sub_at n r t → FirstOf sub_at n r t
first_of sub_at no_link = nothing refl refl
first_of sub_at (one_more {n} {r} {s} {t} d more) = first n s refl d more

-- ---- the types below a kind

below_none : (a : AbstractHeapType) → is_abstract_below a spec.None ≡ true → spec.None ≡ a
below_none spec.None h = refl
below_none _ h = absurd cc

below_no_func : (a : AbstractHeapType) → is_abstract_below a NoFunc ≡ true → NoFunc ≡ a
below_no_func NoFunc h = refl
below_no_func _ h = absurd cc

below_no_cont : (a : AbstractHeapType) → is_abstract_below a NoCont ≡ true → NoCont ≡ a
below_no_cont NoCont h = refl
below_no_cont _ h = absurd cc

-- only the bottom of a kind is below it
below_bottom : (c : CompositeType ℕ) (a : AbstractHeapType) → is_abstract_below a (bottom_of c) ≡ true → bottom_of c ≡ a
below_bottom (FuncComposite type) a h = below_no_func a h
below_bottom (StructComposite fields) a h = below_none a h
below_bottom (ArrayComposite field) a h = below_none a h
below_bottom (ContComposite function) a h = below_no_cont a h

bottom_same : (c : CompositeType ℕ) → is_abstract_below (bottom_of c) (bottom_of c) ≡ true
bottom_same (FuncComposite type) = refl
bottom_same (StructComposite fields) = refl
bottom_same (ArrayComposite field) = refl
bottom_same (ContComposite function) = refl

bottom_below : (c : CompositeType ℕ) (a : AbstractHeapType) → bottom_of c ≡ a → is_abstract_below a (bottom_of c) ≡ true
bottom_below c a e = subst (λ b. is_abstract_below b (bottom_of c) ≡ true) e (bottom_same c)

module _ (types : List SubType) where
  -- what is declared above a type is its supertype
  only_above : (at up : ℕ) (type : SubType) → seen types at ≡ Some (sub_type type) → Declared (seen types) at up
      → Contains (option_to_list type.supertype_idx) up
  only_above at up type is d =
      let one : d.type ≡ sub_type type = same_defined (seen types) at d.type (sub_type type) d.is is in
      let P : spec.SubType ℕ → Type 0 = λ t. Contains t.supertypes up in
      subst P one d.among

  none_above : (at up : ℕ) (type : SubType) → seen types at ≡ Some (sub_type type) → type.supertype_idx ≡ None → Declared (seen types) at up → ⊥
  none_above at up type is top d = contains_none up (subst (λ o. Contains (option_to_list o) up) top (only_above at up type is d))

  one_above : (at up next : ℕ) (type : SubType) → seen types at ≡ Some (sub_type type) → type.supertype_idx ≡ Some up → Declared (seen types) at next
      → next ≡ up
  one_above at up next type is link d = elim (contains_cases next up [] (subst (λ o. Contains (option_to_list o) next) link (only_above at next type is d))) [
    | inl e ↦ sym e
    | inr more ↦ absurd (contains_none next more)
  ]

  -- ---- the walk up

  -- a declared link counts, since the supertype is of the same kind
  counted : (at up : ℕ) (type : spec.SubType ℕ) → seen types at ≡ Some type → IsLinked (map sub_type types) at type → Declared (seen types) at up
      → Link (seen types) at up
  counted at up type is linked d =
      let one : type ≡ d.type = same_defined (seen types) at type d.type is d.is in
      let P : spec.SubType ℕ → Type 0 = λ t. IsLinked (map sub_type types) at t in
      record {
        declared = d;
        kind = all_contains (λ t. IsOfKind (seen types) t (abstract_of d.type.composite_type)) up d.type.supertypes (subst P one linked).kinds d.among;
      }

  pub one_up : (low at up : ℕ) (type : SubType) → (AreLinked (map sub_type types) → Closure (Link (seen types)) low at)
      → seen types at ≡ Some (sub_type type) → type.supertype_idx ≡ Some up → AreLinked (map sub_type types) → Closure (Link (seen types)) low up
  one_up low at up type so_far is link all =
      joined (so_far all) (step (counted at up (sub_type type) is (all at (sub_type type) is) (declared_at types at up type is link)) same)

  pub goes_on : (low at up high : ℕ) (type : SubType) → (Closure (Link (seen types)) low high → Closure (Link (seen types)) at high) → (at ≡ high → ⊥)
      → seen types at ≡ Some (sub_type type) → type.supertype_idx ≡ Some up → Closure (Link (seen types)) low high → Closure (Link (seen types)) up high
  goes_on low at up high type so_far other is link h = elim (first_link (seen types) (so_far h)) [
    | inl e ↦ absurd (other e)
    | inr more ↦ subst (λ next. Closure (Link (seen types)) next high) (one_above at up more.0 type is link more.1.declared) more.2
  ]

  pub ends_at_top : (low at high : ℕ) (type : SubType) → (Closure (Link (seen types)) low high → Closure (Link (seen types)) at high) → (at ≡ high → ⊥)
      → seen types at ≡ Some (sub_type type) → type.supertype_idx ≡ None → Closure (Link (seen types)) low high → ⊥
  ends_at_top low at high type so_far other is top h = elim (first_link (seen types) (so_far h)) [
    | inl e ↦ other e
    | inr more ↦ none_above at more.0 type is top more.1.declared
  ]

  pub ends_outside : (low at high : ℕ) → (Closure (Link (seen types)) low high → Closure (Link (seen types)) at high) → (at ≡ high → ⊥) → seen types at ≡ None
      → Closure (Link (seen types)) low high → ⊥
  ends_outside low at high so_far other out h = elim (first_link (seen types) (so_far h)) [
    | inl e ↦ other e
    | inr more ↦ let is : None ≡ Some more.1.declared.type = sym out ∙ more.1.declared.is in absurd cc
  ]

  -- ---- heights

  -- a supertype is lower by one
  height_above : (n at up : ℕ) (type : SubType) → HasHeight (seen types) n at → seen types at ≡ Some (sub_type type) → type.supertype_idx ≡ Some up
      → (m : ℕ) × (n ≡ suc m) × HasHeight (seen types) m up
  height_above n at up type high is link = elim (first_of (seen types) high.links) [
    | nothing none top ↦
        let here : seen types at ≡ Some high.type = subst (λ t. seen types t ≡ Some high.type) (sym top) high.is in
        let one : sub_type type ≡ high.type = same_defined (seen types) at (sub_type type) high.type is here in
        let empty : option_to_list type.supertype_idx ≡ [] = ap (λ (t : spec.SubType ℕ). t.supertypes) one ∙ high.none in
        let some : up ∷ [] ≡ [] = sym (ap option_to_list link) ∙ empty in
        absurd cc
    | first m s e d more ↦
        let next : s ≡ up = one_above at up s type is link d in
        (m, e, record { top = high.top; links = subst (λ t. Links (seen types) m t high.top) next more; type = high.type; is = high.is; none = high.none })
  ]

  height_top : (n at : ℕ) (type : SubType) → HasHeight (seen types) n at → seen types at ≡ Some (sub_type type) → type.supertype_idx ≡ None → n ≡ 0
  height_top n at type high is top = elim (first_of (seen types) high.links) [
    | nothing none _ ↦ none
    | first m s e d more ↦ absurd (none_above at s type is top d)
  ]

  pub height_inside : (n at : ℕ) → HasHeight (seen types) n at → seen types at ≡ None → ⊥
  height_inside n at high out = elim (first_of (seen types) high.links) [
    | nothing none top ↦
        let here : seen types at ≡ Some high.type = subst (λ t. seen types t ≡ Some high.type) (sym top) high.is in
        let is : None ≡ Some high.type = sym out ∙ here in
        absurd cc
    | first m s e d more ↦ let is : None ≡ Some d.type = sym out ∙ d.is in absurd cc
  ]

  -- what is left of a height after so many steps up
  abbrev pub IsRest : ℕ → ℕ → ℕ → Type 0
  IsRest walked index at = (n : ℕ) → HasHeight (seen types) n index → (m : ℕ) × HasHeight (seen types) m at × (m + walked ≡ n)

  pub rest_goes_on : (walked index at up : ℕ) (type : SubType) → IsRest walked index at → seen types at ≡ Some (sub_type type) → type.supertype_idx ≡ Some up
      → IsRest (walked + 1) index up
  rest_goes_on walked index at up type so_far is link n high =
      let (m, here, e) = so_far n high in
      let (k, f, above) = height_above m at up type here is link in
      (k, above, omega (arith, e, f))

  pub rest_at_top : (walked index at : ℕ) (type : SubType) → IsRest walked index at → seen types at ≡ Some (sub_type type) → type.supertype_idx ≡ None
      → (n : ℕ) → HasHeight (seen types) n index → walked ≡ n
  rest_at_top walked index at type so_far is top n high =
      let (m, here, e) = so_far n high in
      let none = height_top m at type here is top in
      omega (arith, e, none)

  -- the height of a type that is reached is less by what was walked
  abbrev pub IsLow : ℕ → ℕ → Type 0
  IsLow walked at = (walked ≡ 0) ⊎ ((height : ℕ) × HasHeight (seen types) height at × (height + walked ≤ 63))

  height_at : (walked at : ℕ) (type : SubType) → AreLinked (map sub_type types) → IsLow walked at → seen types at ≡ Some (sub_type type)
      → (height : ℕ) × HasHeight (seen types) height at × (height + walked ≤ 63)
  height_at walked at type all (inl none) is = let d = (all at (sub_type type) is).depth in (d.0, d.1, omega (arith, d.2, none))
  height_at walked at type all (inr low) is = low

  pub one_lower : (walked at up : ℕ) (type : SubType) → AreLinked (map sub_type types) → IsLow walked at → seen types at ≡ Some (sub_type type)
      → type.supertype_idx ≡ Some up → IsLow (walked + 1) up
  one_lower walked at up type all low is link =
      let (height, high, few) = height_at walked at type all low is in
      let (m, e, above) = height_above height at up type high is link in
      inr (m, above, omega (arith, few, e))

  pub not_so_high : (walked at : ℕ) → 64 ≤ walked → IsLow walked at → ⊥
  not_so_high walked at many (inl none) = absurd (omega (arith, many, none))
  not_so_high walked at many (inr low) = let few = low.2 in absurd (omega (arith, many, few))

  -- ---- heap types

  pub abstract_exact : (a b : AbstractHeapType) (result : Bool) → result ≡ is_abstract_below a b
      → IsTrue result ↔ HeapBelow (seen types) (Abstract a) (Abstract b)
  abstract_exact a b result is =
      (λ yes. sound (seen types) (Abstract a) (Abstract b) (sym is ∙ yes), λ h. is ∙ complete (seen types) {a = Abstract a} {b = Abstract b} h)

  pub concrete_exact : (low high : ℕ) (result : Bool) → (IsTrue result ↔ Closure (Link (seen types)) low high)
      → IsTrue result ↔ HeapBelow (seen types) (Concrete low) (Concrete high)
  concrete_exact low high result h =
      (λ yes. sound (seen types) (Concrete low) (Concrete high) (h.0 yes), λ below. h.1 (complete (seen types) {a = Concrete low} {b = Concrete high} below))

  pub to_abstract_exact : (index : ℕ) (type : SubType) (b : AbstractHeapType) (result : Bool) → seen types index ≡ Some (sub_type type)
      → result ≡ is_abstract_below (abstract_of (sub_type type).composite_type) b → IsTrue result ↔ HeapBelow (seen types) (Concrete index) (Abstract b)
  to_abstract_exact index type b result at is = (
    λ yes. sound (seen types) (Concrete index) (Abstract b) (record { type = sub_type type; is = at; holds = sym is ∙ yes }),
    λ below.
        let d = complete (seen types) {a = Concrete index} {b = Abstract b} below in
        let one : d.type ≡ sub_type type = same_defined (seen types) index d.type (sub_type type) d.is at in
        let P : spec.SubType ℕ → Type 0 = λ t. is_abstract_below (abstract_of t.composite_type) b ≡ true in
        is ∙ subst P one d.holds,
  )

  pub none_to_abstract : (index : ℕ) (b : AbstractHeapType) → seen types index ≡ None → HeapBelow (seen types) (Concrete index) (Abstract b) → ⊥
  none_to_abstract index b out below =
      let d = complete (seen types) {a = Concrete index} {b = Abstract b} below in
      let is : None ≡ Some d.type = sym out ∙ d.is in
      absurd cc

  pub to_concrete_exact : (a : AbstractHeapType) (index : ℕ) (type : SubType) (result : Bool) → seen types index ≡ Some (sub_type type)
      → result ≡ is_abstract_below a (bottom_of (sub_type type).composite_type) → IsTrue result ↔ HeapBelow (seen types) (Abstract a) (Concrete index)
  to_concrete_exact a index type result at is = (
    λ yes. sound (seen types) (Abstract a) (Concrete index)
        (record { type = sub_type type; is = at; holds = below_bottom (sub_type type).composite_type a (sym is ∙ yes) }),
    λ below.
        let d = complete (seen types) {a = Abstract a} {b = Concrete index} below in
        let one : d.type ≡ sub_type type = same_defined (seen types) index d.type (sub_type type) d.is at in
        let P : spec.SubType ℕ → Type 0 = λ t. bottom_of t.composite_type ≡ a in
        is ∙ bottom_below (sub_type type).composite_type a (subst P one d.holds),
  )

  pub none_to_concrete : (a : AbstractHeapType) (index : ℕ) → seen types index ≡ None → HeapBelow (seen types) (Abstract a) (Concrete index) → ⊥
  none_to_concrete a index out below =
      let d = complete (seen types) {a = Abstract a} {b = Concrete index} below in
      let is : None ≡ Some d.type = sym out ∙ d.is in
      absurd cc
