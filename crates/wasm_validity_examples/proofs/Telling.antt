-- Where no type has a supertype, and it is known of each two whether they are one, there is a test that tells which types are below which.
use Rattle.std.specs.Prelude.{◌↔◌, IsTrue}
use Rattle.std.proofs.Common.{◌≡◌, ◌⊎◌, ◌+◌, ℕ, zero, suc, Bool, true, false, List, [], ◌∷◌, length, Option, None, Some, refl, sym, subst, ap, ◌∙◌, inl, inr, slice_get}
use Rattle.wasm_spec.proofs.Closures.{sound, complete, same_defined}
use Rattle.wasm_spec.specs.Subtyping.{HeapBelow, ValBelow, abstract_of, bottom_of, is_abstract_below, same}
use Rattle.wasm_spec.specs.Trees.{DefType, unrolled}
use Rattle.wasm_spec.specs.Types.{AbstractHeapType, None as NoneHeap, NoFunc, NoCont, HeapType, Abstract, Concrete, ValType, I32, I64, F32, F64, V128, Ref, CompositeType, FuncComposite, StructComposite, ArrayComposite, ContComposite, SubType}
use Rattle.wasm_spec_examples.proofs.TypeKinds.{none_above}
use Rattle.wasm_validity.specs.ModuleBodies.{Below, TellsBelow}
use Rattle.wasm_validity.specs.ConstantTyping.{meant}
use Rattle.wasm_validity.specs.Context.{Context}
use Rattle.wasm_validity.specs.Rules.{IsBelow}

abbrev pub IsTold : Type 0 → Type 0
IsTold P = P ⊎ (P → ⊥)

-- a type without supertypes
pub record IsAlone (type : DefType) : Type 0 where
  pub sub : SubType DefType
  pub is : unrolled type ≡ Some sub
  pub none : sub.supertypes ≡ []

pub record AreTold (types : List DefType) : Type 0 where
  pub alone : (i : ℕ) (type : DefType) → slice_get types i ≡ Some type → IsAlone type
  pub apart : (i j : ℕ) (s t : DefType) → slice_get types i ≡ Some s → slice_get types j ≡ Some t → IsTold (s ≡ t)

-- ---- heap types

-- whose type, if it has one, is among these
abbrev IsHeapAmong : List DefType → HeapType DefType → Type 0
IsHeapAmong types (Abstract heap) = ℕ
IsHeapAmong types (Concrete type) = (i : ℕ) × (slice_get types i ≡ Some type)

abbrev IsAmong : List DefType → ValType DefType → Type 0
IsAmong types (Ref nullable heap) = IsHeapAmong types heap
IsAmong types type = ℕ

is_true : (b : Bool) → IsTold (b ≡ true)
is_true true = inl refl
is_true false = inr (λ e. cc)

-- what is below the lowest type of a kind is that type
below_bottom : (a : AbstractHeapType) (c : CompositeType DefType) → is_abstract_below a (bottom_of c) ≡ true → bottom_of c ≡ a
below_bottom NoFunc (FuncComposite type) e = refl
below_bottom _ (FuncComposite type) e = absurd cc
below_bottom NoneHeap (StructComposite fields) e = refl
below_bottom _ (StructComposite fields) e = absurd cc
below_bottom NoneHeap (ArrayComposite field) e = refl
below_bottom _ (ArrayComposite field) e = absurd cc
below_bottom NoCont (ContComposite function) e = refl
below_bottom _ (ContComposite function) e = absurd cc

bottom_below : (c : CompositeType DefType) → is_abstract_below (bottom_of c) (bottom_of c) ≡ true
bottom_below (FuncComposite type) = refl
bottom_below (StructComposite fields) = refl
bottom_below (ArrayComposite field) = refl
bottom_below (ContComposite function) = refl

module _ (types : List DefType) (told : AreTold types) where
  heap_told : (a b : HeapType DefType) → IsHeapAmong types a → IsHeapAmong types b → IsTold (HeapBelow unrolled a b)
  heap_told (Abstract a) (Abstract b) p q = elim (is_true (is_abstract_below a b)) [
    | inl e ↦ inl (sound unrolled (Abstract a) (Abstract b) e)
    | inr d ↦ inr (λ h. d (complete unrolled {a = Abstract a} {b = Abstract b} h))
  ]
  heap_told (Abstract a) (Concrete t) p q =
      let one = told.alone q.0 t q.1 in
      elim (is_true (is_abstract_below a (bottom_of one.sub.composite_type))) [
        | inl e ↦ inl (sound unrolled (Abstract a) (Concrete t) (record { type = one.sub; is = one.is; holds = below_bottom a one.sub.composite_type e }))
        | inr d ↦ inr (λ h.
            let c = complete unrolled {a = Abstract a} {b = Concrete t} h in
            let equal : c.type ≡ one.sub = same_defined unrolled t c.type one.sub c.is one.is in
            let is : bottom_of one.sub.composite_type ≡ a = ap (λ s. bottom_of s.composite_type) (sym equal) ∙ c.holds in
            d (ap (λ x. is_abstract_below x (bottom_of one.sub.composite_type)) (sym is) ∙ bottom_below one.sub.composite_type))
      ]
  heap_told (Concrete s) (Abstract b) p q =
      let one = told.alone p.0 s p.1 in
      elim (is_true (is_abstract_below (abstract_of one.sub.composite_type) b)) [
        | inl e ↦ inl (sound unrolled (Concrete s) (Abstract b) (record { type = one.sub; is = one.is; holds = e }))
        | inr d ↦ inr (λ h.
            let c = complete unrolled {a = Concrete s} {b = Abstract b} h in
            let equal : c.type ≡ one.sub = same_defined unrolled s c.type one.sub c.is one.is in
            d (ap (λ t. is_abstract_below (abstract_of t.composite_type) b) (sym equal) ∙ c.holds))
      ]
  heap_told (Concrete s) (Concrete t) p q =
      let one = told.alone p.0 s p.1 in
      elim (told.apart p.0 q.0 s t p.1 q.1) [
        | inl e ↦ inl (rw e same)
        | inr d ↦ inr (λ h. d (none_above unrolled s t one.sub one.is one.none h))
      ]

  -- ---- value types

  refs_told : (n m : Bool) (a b : HeapType DefType) → IsTold (HeapBelow unrolled a b) → IsTold (ValBelow unrolled (Ref n a) (Ref m b))
  refs_told true false a b h = inr (λ r. let f = r.null refl in absurd cc)
  refs_told true true a b (inl h) = inl (record { null = λ e. refl; heap = h })
  refs_told false m a b (inl h) = inl (record { null = λ e. absurd cc; heap = h })
  refs_told n m a b (inr d) = inr (λ r. d r.heap)

  vals_told : (a b : ValType DefType) → IsAmong types a → IsAmong types b → IsTold (ValBelow unrolled a b)
  vals_told I32 I32 p q = inl tt
  vals_told I64 I64 p q = inl tt
  vals_told F32 F32 p q = inl tt
  vals_told F64 F64 p q = inl tt
  vals_told V128 V128 p q = inl tt
  vals_told (Ref n a) (Ref m b) p q = refs_told n m a b (heap_told a b p q)
  vals_told _ _ p q = inr (λ h. h)

-- ---- types over type indexes

data Meaning (cx : Context) (a : ValType ℕ) : Type 0 where
  of : (c : ValType DefType) → meant cx a ≡ Some c → IsAmong cx.types c → Meaning cx a
  nothing : meant cx a ≡ None → Meaning cx a

meaning : (cx : Context) (a : ValType ℕ) → Meaning cx a
meaning cx I32 = of I32 refl 0
meaning cx I64 = of I64 refl 0
meaning cx F32 = of F32 refl 0
meaning cx F64 = of F64 refl 0
meaning cx V128 = of V128 refl 0
meaning cx (Ref n (Abstract heap)) = of (Ref n (Abstract heap)) refl 0
meaning cx (Ref n (Concrete i)) = at (slice_get cx.types i) refl
  where
    at : (o : Option DefType) → slice_get cx.types i ≡ o → Meaning cx (Ref n (Concrete i))
    at None e = nothing (rw e refl)
    at (Some type) e = of (Ref n (Concrete type)) (rw e refl) (i, e)

pub below_told : (cx : Context) → AreTold cx.types → (a b : ValType ℕ) → IsTold (IsBelow cx a b)
below_told cx told a b = by_meaning (meaning cx a) (meaning cx b)
  where
    by_meaning : Meaning cx a → Meaning cx b → IsTold (IsBelow cx a b)
    by_meaning (of c e p) (of d f q) = rw (e, f) (vals_told cx.types told c d p q)
    by_meaning (of c e p) (nothing f) = rw (e, f) (inr (λ h. h))
    by_meaning (nothing e) other = rw e (inr (λ h. h))

-- ---- the test

abbrev holds : {P : Type 0} → IsTold P → Bool
holds (inl p) = true
holds (inr d) = false

holds_both : {P : Type 0} (t : IsTold P) → IsTrue (holds t) ↔ P
holds_both (inl p) = (λ h. p, λ q. refl)
holds_both (inr d) = (λ h. absurd cc, λ q. absurd (d q))

pub telling : (cx : Context) → AreTold cx.types → (is_below : Below) × TellsBelow cx is_below
telling cx told = (λ a b. holds (below_told cx told a b), λ a b. holds_both (below_told cx told a b))

-- what such a test denies
pub denies : (cx : Context) (is_below : Below) → TellsBelow cx is_below → (a b : ValType ℕ) → (IsBelow cx a b → ⊥) → is_below a b ≡ false
denies cx is_below tells a b d = is_none (is_below a b) (λ h. d ((tells a b).0 h))
  where
    is_none : (x : Bool) → (x ≡ true → ⊥) → x ≡ false
    is_none true h = absurd (h refl)
    is_none false h = refl

-- ---- types one after the other

pub told_none : AreTold []
told_none = record { alone = λ i type e. absurd cc; apart = λ i j s t e f. absurd cc }

-- one more type in front, which is known to be one of the others or not
pub told_more : (type : DefType) (types : List DefType) → IsAlone type → ((j : ℕ) (t : DefType) → slice_get types j ≡ Some t → IsTold (type ≡ t)) → AreTold types → AreTold (type ∷ types)
told_more type types is_alone each told = record { alone = alone; apart = apart }
  where
    alone : (i : ℕ) (t : DefType) → slice_get (type ∷ types) i ≡ Some t → IsAlone t
    alone zero t e = let same : type ≡ t = cc in subst IsAlone same is_alone
    alone (suc i) t e = told.alone i t e

    turned : (s t : DefType) → IsTold (s ≡ t) → IsTold (t ≡ s)
    turned s t (inl e) = inl (sym e)
    turned s t (inr d) = inr (λ e. d (sym e))

    apart : (i j : ℕ) (s t : DefType) → slice_get (type ∷ types) i ≡ Some s → slice_get (type ∷ types) j ≡ Some t → IsTold (s ≡ t)
    apart zero zero s t e f = inl cc
    apart zero (suc j) s t e f = let same : type ≡ s = cc in subst (λ x. IsTold (x ≡ t)) same (each j t f)
    apart (suc i) zero s t e f = let same : type ≡ t = cc in turned t s (subst (λ x. IsTold (x ≡ s)) same (each i s e))
    apart (suc i) (suc j) s t e f = told.apart i j s t e f

pub told_one : (type : DefType) → IsAlone type → AreTold (type ∷ [])
told_one type alone = told_more type [] alone (λ j t e. absurd cc) told_none

pub told_two : (s t : DefType) → IsAlone s → IsAlone t → (s ≡ t → ⊥) → AreTold (s ∷ t ∷ [])
told_two s t alone other differ = told_more s (t ∷ []) alone each (told_one t other)
  where
    each : (j : ℕ) (u : DefType) → slice_get (t ∷ []) j ≡ Some u → IsTold (s ≡ u)
    each zero u e = let same : t ≡ u = cc in subst (λ x. IsTold (s ≡ x)) same (inr differ)
    each (suc j) u e = absurd cc

pub told_three : (s t u : DefType) → IsAlone s → AreTold (t ∷ u ∷ []) → (s ≡ t → ⊥) → (s ≡ u → ⊥) → AreTold (s ∷ t ∷ u ∷ [])
told_three s t u alone others differ also = told_more s (t ∷ u ∷ []) alone each others
  where
    each : (j : ℕ) (x : DefType) → slice_get (t ∷ u ∷ []) j ≡ Some x → IsTold (s ≡ x)
    each zero x e = let same : t ≡ x = cc in subst (λ y. IsTold (s ≡ y)) same (inr differ)
    each (suc zero) x e = let same : u ≡ x = cc in subst (λ y. IsTold (s ≡ y)) same (inr also)
    each (suc (suc j)) x e = absurd cc

-- a number by which functions and structures differ: how many results, or how many fields and three
abbrev pub mark : DefType → ℕ
mark type = of (unrolled type)
  where
    of_composite : CompositeType DefType → ℕ
    of_composite (FuncComposite function) = length function.results
    of_composite (StructComposite fields) = 3 + length fields
    of_composite _ = 3

    of : Option (SubType DefType) → ℕ
    of None = 3
    of (Some sub) = of_composite sub.composite_type
