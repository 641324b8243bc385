-- The greatest type above another one.
use Rattle.std.proofs.Common.{◌≡◌, true, Option, Some, None, option_map, refl, sym, ap, ◌∙◌}
use Rattle.wasm_spec.proofs.Closures.{same_defined, sound}
use Rattle.wasm_spec.specs.Subtyping.{SubTypes, AbstractStep, none_i31, none_struct, none_array, i31_eq, struct_eq, array_eq, eq_any, nofunc_func, noextern_extern, noexn_exn, nocont_cont, abstract_of, bottom_of, Defined, HeapStep, HeapBelow, is_abstract_below, same, step}
use Rattle.wasm_spec.specs.Types.{AbstractHeapType, Func, Extern, Any, None as NoInternal, NoExtern, NoFunc, Eq, Struct, Array, I31, Exn, NoExn, Cont, NoCont, HeapType, Abstract, Concrete, CompositeType, FuncComposite, StructComposite, ArrayComposite, ContComposite, SubType}
use Rattle.wasmparser_type_relations.specs.Tops.{IsTop, top_above, top_of}

same_top : {a b : AbstractHeapType} → AbstractStep a b → top_of a ≡ top_of b
same_top none_i31 = refl
same_top none_struct = refl
same_top none_array = refl
same_top i31_eq = refl
same_top struct_eq = refl
same_top array_eq = refl
same_top eq_any = refl
same_top nofunc_func = refl
same_top noextern_extern = refl
same_top noexn_exn = refl
same_top nocont_cont = refl

bottom_top : {R : Type 0} (c : CompositeType R) → top_of (bottom_of c) ≡ top_of (abstract_of c)
bottom_top (FuncComposite type) = refl
bottom_top (StructComposite fields) = refl
bottom_top (ArrayComposite field) = refl
bottom_top (ContComposite function) = refl

below_top : (a : AbstractHeapType) → is_abstract_below a (top_of a) ≡ true
below_top Func = refl
below_top Extern = refl
below_top Any = refl
below_top NoInternal = refl
below_top NoExtern = refl
below_top NoFunc = refl
below_top Eq = refl
below_top Struct = refl
below_top Array = refl
below_top I31 = refl
below_top Exn = refl
below_top NoExn = refl
below_top Cont = refl
below_top NoCont = refl

module _ {R : Type 0} (sub_at : SubTypes R) where
  -- the abstract type is the greatest one above
  abbrev HasTop : HeapType R → AbstractHeapType → Type 0
  HasTop (Abstract a) top = top_of a ≡ top
  HasTop (Concrete r) top = Defined sub_at r (λ c. top_of (abstract_of c) ≡ top)

  kept : (a b : HeapType R) (top : AbstractHeapType) → HeapStep sub_at a b → HasTop a top → HasTop b top
  kept (Abstract a) (Abstract b) top up has = sym (same_top up) ∙ has
  kept (Abstract a) (Concrete r) top up has = record { type = up.type; is = up.is; holds = sym (bottom_top up.type.composite_type) ∙ ap top_of up.holds ∙ has }
  kept (Concrete r) (Abstract b) top up has =
      let one : has.type ≡ up.type = same_defined sub_at r has.type up.type has.is up.is in
      sym (ap top_of up.holds) ∙ ap (λ (s : SubType R). top_of (abstract_of s.composite_type)) (sym one) ∙ has.holds
  kept (Concrete r) (Concrete t) top up has =
      let declared = up.declared in
      let one : has.type ≡ declared.type = same_defined sub_at r has.type declared.type has.is declared.is in
      record { type = up.kind.type; is = up.kind.is; holds = ap top_of up.kind.holds ∙ ap (λ (s : SubType R). top_of (abstract_of s.composite_type)) (sym one) ∙ has.holds }

  all_kept : {a b : HeapType R} (top : AbstractHeapType) → HeapBelow sub_at a b → HasTop a top → HasTop b top
  all_kept top same has = has
  all_kept top (step {x} {y} {z} up path) has = all_kept top path (kept x y top up has)

  under : (a : HeapType R) (top : AbstractHeapType) → HasTop a top → HeapBelow sub_at a (Abstract top)
  under (Abstract a) top has = sound sub_at (Abstract a) (Abstract top) (rw (sym has) (below_top a))
  under (Concrete r) top has = sound sub_at (Concrete r) (Abstract top) (record { type = has.type; is = has.is; holds = rw (sym has.holds) (below_top (abstract_of has.type.composite_type)) })

  is_top : (a : HeapType R) (top : AbstractHeapType) → HasTop a top → IsTop sub_at a (Abstract top)
  is_top a top has = record { above = under a top has; greatest = λ b below. under b top (all_kept top below has) }

  alone : {a b : HeapType R} (r : R) → sub_at r ≡ None → a ≡ Concrete r → HeapBelow sub_at a b → b ≡ Concrete r
  alone r none e same = e
  alone r none e (step {x} {y} {z} up path) = absurd (no_step y (rw e at up)) where
    no_step : (y : HeapType R) → ¬ (HeapStep sub_at (Concrete r) y)
    no_step (Abstract b) st = let has = st.is in cc
    no_step (Concrete t) st = let has = st.declared.is in cc

  pub tops : (a : HeapType R) (top : AbstractHeapType) → top_above sub_at a ≡ Some top → IsTop sub_at a (Abstract top)
  tops (Abstract a) top is = is_top (Abstract a) top cc
  tops (Concrete r) top is = go (sub_at r) refl is where
    go : (o : Option (SubType R)) → sub_at r ≡ o → option_map (λ (s : SubType R). top_of (abstract_of s.composite_type)) o ≡ Some top → IsTop sub_at (Concrete r) (Abstract top)
    go (Some type) at has = is_top (Concrete r) top (record { type = type; is = at; holds = cc })
    go None at has = absurd cc

  pub no_top : (a : HeapType R) → top_above sub_at a ≡ None → IsTop sub_at a a
  no_top (Abstract a) is = absurd cc
  no_top (Concrete r) is = go (sub_at r) refl is where
    go : (o : Option (SubType R)) → sub_at r ≡ o → option_map (λ (s : SubType R). top_of (abstract_of s.composite_type)) o ≡ None → IsTop sub_at (Concrete r) (Concrete r)
    go (Some type) at has = absurd cc
    go None at has = record { above = same; greatest = λ b below. rw (alone r at refl below) same }
