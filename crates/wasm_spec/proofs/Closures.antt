-- The test of subtyping is the closure of the direct steps.
use Rattle.std.proofs.Common.{◌≡◌, Bool, true, false, refl, ap, sym, ◌∙◌, Option, Some}
use Rattle.wasm_spec.specs.Subtyping.{Closure, same, step, AbstractStep, none_i31, none_struct, none_array, i31_eq, struct_eq, array_eq, eq_any, nofunc_func, noextern_extern, noexn_exn, nocont_cont, abstract_of, bottom_of, Defined, Link, HeapStep, HeapBelow, is_abstract_below, HeapTest}
use Rattle.wasm_spec.specs.Types.{AbstractHeapType, Func, Extern, Any, None, NoExtern, NoFunc, Eq, Struct, Array, I31, Exn, NoExn, Cont, NoCont, HeapType, Abstract, Concrete, CompositeType, FuncComposite, StructComposite, ArrayComposite, ContComposite, SubType}

-- ---- closures

pub joined : {X : Type 0} {Rel : X → X → Type 0} {x y z : X} → Closure Rel x y → Closure Rel y z → Closure Rel x z
joined same q = q
joined (step r p) q = step r (joined p q)

pub mapped : {X Y : Type 0} {Rel : X → X → Type 0} {Rel' : Y → Y → Type 0} (f : X → Y) → ((x y : X) → Rel x y → Rel' (f x) (f y)) → {x y : X} → Closure Rel x y → Closure Rel' (f x) (f y)
mapped f one same = same
mapped f one (step {x} {y} r p) = step (one x y r) (mapped f one p)

-- ---- the table

abstract_same : (a : AbstractHeapType) → is_abstract_below a a ≡ true
abstract_same Func = refl
abstract_same Extern = refl
abstract_same Any = refl
abstract_same None = refl
abstract_same NoExtern = refl
abstract_same NoFunc = refl
abstract_same Eq = refl
abstract_same Struct = refl
abstract_same Array = refl
abstract_same I31 = refl
abstract_same Exn = refl
abstract_same NoExn = refl
abstract_same Cont = refl
abstract_same NoCont = refl

-- a step before what the table says
abstract_up : {a b : AbstractHeapType} → AbstractStep a b → (c : AbstractHeapType) → is_abstract_below b c ≡ true → is_abstract_below a c ≡ true
abstract_up none_i31 I31 h = refl
abstract_up none_i31 Eq h = refl
abstract_up none_i31 Any h = refl
abstract_up none_i31 _ h = cc
abstract_up none_struct Struct h = refl
abstract_up none_struct Eq h = refl
abstract_up none_struct Any h = refl
abstract_up none_struct _ h = cc
abstract_up none_array Array h = refl
abstract_up none_array Eq h = refl
abstract_up none_array Any h = refl
abstract_up none_array _ h = cc
abstract_up i31_eq Eq h = refl
abstract_up i31_eq Any h = refl
abstract_up i31_eq _ h = cc
abstract_up struct_eq Eq h = refl
abstract_up struct_eq Any h = refl
abstract_up struct_eq _ h = cc
abstract_up array_eq Eq h = refl
abstract_up array_eq Any h = refl
abstract_up array_eq _ h = cc
abstract_up eq_any Any h = refl
abstract_up eq_any _ h = cc
abstract_up nofunc_func Func h = refl
abstract_up nofunc_func _ h = cc
abstract_up noextern_extern Extern h = refl
abstract_up noextern_extern _ h = cc
abstract_up noexn_exn Exn h = refl
abstract_up noexn_exn _ h = cc
abstract_up nocont_cont Cont h = refl
abstract_up nocont_cont _ h = cc

abstract_sound : (a b : AbstractHeapType) → is_abstract_below a b ≡ true → Closure AbstractStep a b
abstract_sound None None h = same
abstract_sound None I31 h = step none_i31 same
abstract_sound None Struct h = step none_struct same
abstract_sound None Array h = step none_array same
abstract_sound None Eq h = step none_i31 (step i31_eq same)
abstract_sound None Any h = step none_i31 (step i31_eq (step eq_any same))
abstract_sound I31 I31 h = same
abstract_sound I31 Eq h = step i31_eq same
abstract_sound I31 Any h = step i31_eq (step eq_any same)
abstract_sound Struct Struct h = same
abstract_sound Struct Eq h = step struct_eq same
abstract_sound Struct Any h = step struct_eq (step eq_any same)
abstract_sound Array Array h = same
abstract_sound Array Eq h = step array_eq same
abstract_sound Array Any h = step array_eq (step eq_any same)
abstract_sound Eq Eq h = same
abstract_sound Eq Any h = step eq_any same
abstract_sound Any Any h = same
abstract_sound NoFunc NoFunc h = same
abstract_sound NoFunc Func h = step nofunc_func same
abstract_sound Func Func h = same
abstract_sound NoExtern NoExtern h = same
abstract_sound NoExtern Extern h = step noextern_extern same
abstract_sound Extern Extern h = same
abstract_sound NoExn NoExn h = same
abstract_sound NoExn Exn h = step noexn_exn same
abstract_sound Exn Exn h = same
abstract_sound NoCont NoCont h = same
abstract_sound NoCont Cont h = step nocont_cont same
abstract_sound Cont Cont h = same
abstract_sound _ _ h = absurd cc

-- ---- kinds

-- what is above a kind is above its bottom
bottom_up : {R : Type 0} (c : CompositeType R) (b : AbstractHeapType) → is_abstract_below (abstract_of c) b ≡ true → is_abstract_below (bottom_of c) b ≡ true
bottom_up (FuncComposite type) b h = abstract_up nofunc_func b h
bottom_up (StructComposite fields) b h = abstract_up none_struct b h
bottom_up (ArrayComposite field) b h = abstract_up none_array b h
bottom_up (ContComposite function) b h = abstract_up nocont_cont b h

-- the types that no step leads to
abbrev is_bottom : AbstractHeapType → Bool
is_bottom None = true
is_bottom NoFunc = true
is_bottom NoExtern = true
is_bottom NoExn = true
is_bottom NoCont = true
is_bottom _ = false

no_step_to_bottom : {a b : AbstractHeapType} → AbstractStep a b → is_bottom b ≡ false
no_step_to_bottom none_i31 = refl
no_step_to_bottom none_struct = refl
no_step_to_bottom none_array = refl
no_step_to_bottom i31_eq = refl
no_step_to_bottom struct_eq = refl
no_step_to_bottom array_eq = refl
no_step_to_bottom eq_any = refl
no_step_to_bottom nofunc_func = refl
no_step_to_bottom noextern_extern = refl
no_step_to_bottom noexn_exn = refl
no_step_to_bottom nocont_cont = refl

bottom_is : {R : Type 0} (c : CompositeType R) → is_bottom (bottom_of c) ≡ true
bottom_is (FuncComposite type) = refl
bottom_is (StructComposite fields) = refl
bottom_is (ArrayComposite field) = refl
bottom_is (ContComposite function) = refl

abstract_is_no_bottom : {R : Type 0} (c : CompositeType R) → is_bottom (abstract_of c) ≡ false
abstract_is_no_bottom (FuncComposite type) = refl
abstract_is_no_bottom (StructComposite fields) = refl
abstract_is_no_bottom (ArrayComposite field) = refl
abstract_is_no_bottom (ContComposite function) = refl

-- the bottom of a kind, by its abstract type
abbrev pub bottom_under : AbstractHeapType → AbstractHeapType
bottom_under Func = NoFunc
bottom_under Cont = NoCont
bottom_under _ = None

pub bottom_by_abstract : {R : Type 0} (c : CompositeType R) → bottom_of c ≡ bottom_under (abstract_of c)
bottom_by_abstract (FuncComposite type) = refl
bottom_by_abstract (StructComposite fields) = refl
bottom_by_abstract (ArrayComposite field) = refl
bottom_by_abstract (ContComposite function) = refl

-- ---- the test and the closure

-- two readings of one type agree
pub same_defined : {R : Type 0} (sub_at : R → Option (SubType R)) (r : R) (s t : SubType R) → sub_at r ≡ Some s → sub_at r ≡ Some t → s ≡ t
same_defined sub_at r s t e e' = cc

module _ {R : Type 0} (sub_at : R → Option (SubType R)) where
  pub sound : (a b : HeapType R) → HeapTest sub_at a b → HeapBelow sub_at a b
  sound (Abstract a) (Abstract b) h = mapped {Rel' = HeapStep sub_at} Abstract (λ x y s. s) (abstract_sound a b h)
  sound (Abstract a) (Concrete r) h = step h same
  sound (Concrete r) (Abstract b) h =
      let up : HeapStep sub_at (Concrete r) (Abstract (abstract_of h.type.composite_type)) = record { type = h.type; is = h.is; holds = refl } in
      step up (mapped {Rel' = HeapStep sub_at} Abstract (λ x y s. s) (abstract_sound (abstract_of h.type.composite_type) b h.holds))
  sound (Concrete r) (Concrete t) h = mapped {Rel' = HeapStep sub_at} Concrete (λ x y s. s) h

  -- kinds along links
  pub kind_kept : {r t : R} → Closure (Link sub_at) r t → (s : SubType R) → sub_at r ≡ Some s → Defined sub_at t (λ c. abstract_of c ≡ abstract_of s.composite_type)
  kind_kept same s e = record { type = s; is = e; holds = refl }
  kind_kept (step {x} {y} l p) s e =
      let d = l.kind in
      let k = kind_kept p d.type d.is in
      let one : l.declared.type ≡ s = same_defined sub_at x l.declared.type s l.declared.is e in
      record { type = k.type; is = k.is; holds = k.holds ∙ d.holds ∙ ap (λ u. abstract_of u.composite_type) one }

  heap_same : (x : HeapType R) → HeapTest sub_at x x
  heap_same (Abstract a) = abstract_same a
  heap_same (Concrete r) = same

  prepend : (a b c : HeapType R) → HeapStep sub_at a b → HeapTest sub_at b c → HeapTest sub_at a c
  prepend (Abstract a) (Abstract b) (Abstract c) st t = abstract_up st c t
  prepend (Abstract a) (Abstract b) (Concrete r) st t =
      let no : is_bottom b ≡ true = ap is_bottom (sym t.holds) ∙ bottom_is t.type.composite_type in
      let yes = no_step_to_bottom st in absurd cc
  prepend (Abstract a) (Concrete r) (Abstract c) st t =
      let one : t.type ≡ st.type = same_defined sub_at r t.type st.type t.is st.is in
      let up : is_abstract_below (abstract_of st.type.composite_type) c ≡ true = rw one at t.holds in
      rw (sym st.holds) (bottom_up st.type.composite_type c up)
  prepend (Abstract a) (Concrete r) (Concrete q) st t =
      let k = kind_kept t st.type st.is in
      record { type = k.type; is = k.is; holds = bottom_by_abstract k.type.composite_type ∙ ap bottom_under k.holds ∙ sym (bottom_by_abstract st.type.composite_type) ∙ st.holds }
  prepend (Concrete r) (Abstract b) (Abstract c) st t = record { type = st.type; is = st.is; holds = rw st.holds t }
  prepend (Concrete r) (Abstract b) (Concrete q) st t =
      let no : is_bottom b ≡ true = ap is_bottom (sym t.holds) ∙ bottom_is t.type.composite_type in
      let yes : is_bottom b ≡ false = ap is_bottom (sym st.holds) ∙ abstract_is_no_bottom st.type.composite_type in
      absurd cc
  prepend (Concrete r) (Concrete q) (Abstract c) st t =
      let k = st.kind in
      let one : t.type ≡ k.type = same_defined sub_at q t.type k.type t.is k.is in
      record { type = st.declared.type; is = st.declared.is; holds = rw (sym k.holds, sym one) t.holds }
  prepend (Concrete r) (Concrete q) (Concrete u) st t = step st t

  pub complete : {a b : HeapType R} → HeapBelow sub_at a b → HeapTest sub_at a b
  complete (same {x}) = heap_same x
  complete (step {x} {y} {z} st p) = prepend x y z st (complete p)
