-- Kinds of defined types, and what a closure can't join.
use Rattle.std.proofs.Common.{◌≡◌, true, false, List, [], ◌∷◌, refl, ap, sym, ◌∙◌, ◌⊎◌, inl, inr, subst, Option, Some}
use Rattle.std.specs.List.{Contains}
use Rattle.wasm_spec.specs.Groups.{Extends}
use Rattle.wasm_spec.specs.Matching.{CompositeMatches}
use Rattle.wasm_spec.specs.Subtyping.{Closure, same, step, abstract_of, bottom_of, Defined, HeapBelow, is_abstract_below}
use Rattle.wasm_spec.specs.Types.{AbstractHeapType, I31, Abstract, Concrete, CompositeType, FuncComposite, StructComposite, ArrayComposite, ContComposite, SubType}
use Rattle.wasm_spec.proofs.Closures.{sound, complete, bottom_under, bottom_by_abstract, same_defined, kind_kept}
use Rattle.wasm_spec.proofs.Elements.{contains_cases, contains_none}

module _ {R : Type 0} (sub_at : R → Option (SubType R)) where
  -- the bottom of a kind is below its types
  pub bottom_below : (r : R) (a : AbstractHeapType) → Defined sub_at r (λ c. abstract_of c ≡ a) → HeapBelow sub_at (Abstract (bottom_under a)) (Concrete r)
  bottom_below r a d = sound sub_at (Abstract (bottom_under a)) (Concrete r) (record { type = d.type; is = d.is; holds = bottom_by_abstract d.type.composite_type ∙ ap bottom_under d.holds })

  -- and nothing else
  pub bottom_alone : (r : R) (a b : AbstractHeapType) → Defined sub_at r (λ c. abstract_of c ≡ a) → HeapBelow sub_at (Abstract b) (Concrete r) → b ≡ bottom_under a
  bottom_alone r a b d h =
      let t = complete sub_at {a = Abstract b} {b = Concrete r} h in
      let one : t.type ≡ d.type = same_defined sub_at r t.type d.type t.is d.is in
      sym t.holds ∙ ap (λ s. bottom_of s.composite_type) one ∙ bottom_by_abstract d.type.composite_type ∙ ap bottom_under d.holds

  -- the abstract types above a kind are above its types
  pub kind_below : (r : R) (a b : AbstractHeapType) → Defined sub_at r (λ c. abstract_of c ≡ a) → is_abstract_below a b ≡ true → HeapBelow sub_at (Concrete r) (Abstract b)
  kind_below r a b d h = sound sub_at (Concrete r) (Abstract b) (record { type = d.type; is = d.is; holds = ap (λ q. is_abstract_below q b) d.holds ∙ h })

  pub kind_above : (r : R) (a b : AbstractHeapType) → Defined sub_at r (λ c. abstract_of c ≡ a) → HeapBelow sub_at (Concrete r) (Abstract b) → is_abstract_below a b ≡ true
  kind_above r a b d h =
      let t = complete sub_at {a = Concrete r} {b = Abstract b} h in
      let one : t.type ≡ d.type = same_defined sub_at r t.type d.type t.is d.is in
      ap (λ q. is_abstract_below q b) (sym d.holds ∙ ap (λ s. abstract_of s.composite_type) (sym one)) ∙ t.holds

  -- a type is below types of its kind alone
  pub same_kind : (r t : R) (a b : SubType R) → sub_at r ≡ Some a → sub_at t ≡ Some b → HeapBelow sub_at (Concrete r) (Concrete t) → abstract_of a.composite_type ≡ abstract_of b.composite_type
  same_kind r t a b e e' h =
      let k = kind_kept sub_at (complete sub_at {a = Concrete r} {b = Concrete t} h) a e in
      let one : k.type ≡ b = same_defined sub_at t k.type b k.is e' in
      sym k.holds ∙ ap (λ s. abstract_of s.composite_type) one

-- a known supertype that a type extends
pub extends_known : {R : Type 0} {sub_at : R → Option (SubType R)} {type : SubType R} {t : R} → Extends sub_at type t → (u : SubType R) → sub_at t ≡ Some u → (u.is_final ≡ false) × CompositeMatches sub_at type.composite_type u.composite_type
extends_known {R} {sub_at} {type} {t} e u is =
    let one : e.supertype ≡ u = same_defined sub_at t e.supertype u e.is is in
    let P : SubType R → Type 0 = λ s. (s.is_final ≡ false) × CompositeMatches sub_at type.composite_type s.composite_type in
    subst P one (e.is_open, e.matches)

-- the first link of a chain
pub first_link : {X : Type 0} {Rel : X → X → Type 0} {x y : X} → Closure Rel x y → (x ≡ y) ⊎ ((z : X) × Rel x z × Closure Rel z y)
first_link same = inl refl
first_link (step {x} {y} {z} r p) = inr (y, r, p)

module _ {R : Type 0} (sub_at : R → Option (SubType R)) where
  -- a type without supertypes is below no other type
  pub none_above : (r t : R) (s : SubType R) → sub_at r ≡ Some s → s.supertypes ≡ [] → HeapBelow sub_at (Concrete r) (Concrete t) → r ≡ t
  none_above r t s e none h = elim (first_link (complete sub_at {a = Concrete r} {b = Concrete t} h)) [
    | inl one ↦ one
    | inr more ↦
        let l = more.1.declared in
        let one : l.type ≡ s = same_defined sub_at r l.type s l.is e in
        let P : List R → Type 0 = λ ts. Contains ts more.0 in
        let empty : Contains [] more.0 = subst P (ap (λ q. q.supertypes) one ∙ none) l.among in
        absurd (contains_none more.0 empty)
  ]

  -- a type with one supertype is below that one's types and itself alone
  pub one_above : (r t u : R) (s : SubType R) → sub_at r ≡ Some s → s.supertypes ≡ t ∷ [] → HeapBelow sub_at (Concrete r) (Concrete u) → (r ≡ u) ⊎ HeapBelow sub_at (Concrete t) (Concrete u)
  one_above r t u s e one h = elim (first_link (complete sub_at {a = Concrete r} {b = Concrete u} h)) [
    | inl is ↦ inl is
    | inr more ↦
        let l = more.1.declared in
        let known : l.type ≡ s = same_defined sub_at r l.type s l.is e in
        let P : List R → Type 0 = λ ts. Contains ts more.0 in
        elim (contains_cases more.0 t [] (subst P (ap (λ q. q.supertypes) known ∙ one) l.among)) [
          | inl is ↦
              let Q : R → Type 0 = λ q. HeapBelow sub_at (Concrete q) (Concrete u) in
              inr (subst Q (sym is) (sound sub_at (Concrete more.0) (Concrete u) more.2))
          | inr none ↦ absurd (contains_none more.0 none)
        ]
  ]

pub bottom_is_no_i31 : {R : Type 0} (c : CompositeType R) → bottom_of c ≡ I31 → ⊥
bottom_is_no_i31 (FuncComposite type) e = cc
bottom_is_no_i31 (StructComposite fields) e = cc
bottom_is_no_i31 (ArrayComposite field) e = cc
bottom_is_no_i31 (ContComposite function) e = cc
