-- The offers of a configuration suit its features.
use Rattle.std.proofs.Common.{◌≡◌, ◌≤◌, Bool, true, false, ◌&&◌, cond, List, [], ◌∷◌, ◌++◌, refl, ◌∙◌, inl, inr, arith}
use Rattle.std.specs.Prelude.{◌⊎◌}
use Rattle.std.proofs.lemmas.Bool.{and_parts}
use Rattle.std.specs.List.{AllByRecursion}
use Rattle.wasm_spec.specs.Features.{Features, ReferenceTypes, MultiValue, Simd, Exceptions, Floats, Gc, GcTypes, FunctionReferences, StackSwitching, has}
use Rattle.wasm_spec.specs.Gates.{is_allowed_abstract}
use Rattle.wasm_spec.specs.Types.{AbstractHeapType, Any, Eq, I31, Struct, Array, None, NoFunc, NoExtern, Exn, NoExn, Cont, NoCont, F32, F64, V128}
use Rattle.wasm_smith_config.specs.Config.{AreFeaturesOf}
use Rattle.wasm_smith_config.specs.declared.config.Config.{Config}
use Rattle.wasm_smith_types.specs.Drawing.{NumberOrVector, Reference}
use Rattle.wasm_smith_types.specs.Permitted.{SuitsKind, SuitsValues, Suits}
use Rattle.wasm_smith_types.specs.Offering.{offers, offered_kinds}
use Rattle.wasm_smith_types.proofs.ListLaws.{all_append, all_if}

module _ (c : Config) (features : Features) (are : AreFeaturesOf c features) where
  kinds_suit : AllByRecursion (SuitsKind features) (offered_kinds c)
  kinds_suit =
      let P = SuitsKind features in
      let floats =
      all_if P c.allow_floats (NumberOrVector F32 ∷ NumberOrVector F64 ∷ [])
      (λ h. (λ bound. record { allowed = are Floats; in_range = tt }, (λ bound. record { allowed = are Floats; in_range = tt }, tt))) in
      let vectors = all_if P c.simd_enabled (NumberOrVector V128 ∷ []) (λ h. (λ bound. record { allowed = are Simd ∙ h; in_range = tt }, tt)) in
      let references = all_if P c.reference_types_enabled (Reference ∷ []) (λ h. (are ReferenceTypes ∙ h, tt)) in (
        λ bound. record { allowed = refl; in_range = tt },
        (
          λ bound. record { allowed = refl; in_range = tt },
          all_append P (cond c.allow_floats (NumberOrVector F32 ∷ NumberOrVector F64 ∷ []) [] ++ cond c.simd_enabled (NumberOrVector V128 ∷ []) [])
              (cond c.reference_types_enabled (Reference ∷ []) [])
              (all_append P (cond c.allow_floats (NumberOrVector F32 ∷ NumberOrVector F64 ∷ []) []) (cond c.simd_enabled (NumberOrVector V128 ∷ []) []) floats vectors) references,
        ),
      )

  types_on : has features GcTypes ≡ true
  types_on = are GcTypes

  both_on : c.gc_enabled ≡ true → (has features GcTypes && has features Gc) ≡ true
  both_on on = rw (types_on, are Gc ∙ on) refl

  abbrev gc_heaps : List AbstractHeapType
  gc_heaps = cond c.gc_enabled (Any ∷ Eq ∷ I31 ∷ Struct ∷ Array ∷ None ∷ NoFunc ∷ NoExtern ∷ []) []

  abbrev exception_heaps : List AbstractHeapType
  exception_heaps = cond c.exceptions_enabled (Exn ∷ []) []

  abbrev no_exception_heaps : List AbstractHeapType
  no_exception_heaps = cond (c.gc_enabled && c.exceptions_enabled) (NoExn ∷ []) []

  abbrev continuation_heaps : List AbstractHeapType
  continuation_heaps = cond c.stack_switching_enabled (Cont ∷ NoCont ∷ []) []

  others : (nullable : Bool)
      → AllByRecursion (λ heap. is_allowed_abstract features nullable heap ≡ true) (((gc_heaps ++ exception_heaps) ++ no_exception_heaps) ++ continuation_heaps)
  others nullable =
      let P = λ (heap : AbstractHeapType). is_allowed_abstract features nullable heap ≡ true in
      let gc =
      all_if P c.gc_enabled (Any ∷ Eq ∷ I31 ∷ Struct ∷ Array ∷ None ∷ NoFunc ∷ NoExtern ∷ [])
      (λ h. let on = both_on h in (on, (on, (on, (on, (on, (on, (on, (on, tt))))))))) in
      let exceptions = all_if P c.exceptions_enabled (Exn ∷ []) (λ h. (are Exceptions ∙ h, tt)) in
      let no_exceptions =
      all_if P (c.gc_enabled && c.exceptions_enabled) (NoExn ∷ [])
      (λ h. (rw types_on (are Exceptions ∙ (and_parts c.gc_enabled c.exceptions_enabled h).1), tt)) in
      let continuations =
      all_if P c.stack_switching_enabled (Cont ∷ NoCont ∷ [])
      (λ h. let on : (has features GcTypes && has features StackSwitching) ≡ true = rw types_on (are StackSwitching ∙ h) in (on, (on, tt))) in
      all_append P ((gc_heaps ++ exception_heaps) ++ no_exception_heaps) continuation_heaps
      (all_append P (gc_heaps ++ exception_heaps) no_exception_heaps (all_append P gc_heaps exception_heaps gc exceptions) no_exceptions) continuations

  several_if : (b : Bool) → (b ≡ true → has features MultiValue ≡ true) → (cond b 20 1 ≤ 1) ⊎ (has features MultiValue ≡ true)
  several_if true h = inr (h refl)
  several_if false h = inl (omega arith)

  few_if : (b : Bool) → cond b 20 1 ≤ 20
  few_if true = omega arith
  few_if false = omega arith

  pub values_suit : SuitsValues features (offers c)
  unfolding offers
  values_suit = record {
    kinds = kinds_suit;
    heaps = (refl, (rw types_on refl, others true));
    non_null = λ on. (are FunctionReferences ∙ on, (rw (types_on, are FunctionReferences ∙ on) refl, others false));
    gc = λ on. are Gc ∙ on;
    references = λ on. are FunctionReferences ∙ on;
    most = few_if c.multi_value_enabled;
    several = several_if c.multi_value_enabled (λ h. are MultiValue ∙ h);
  }

  pub offers_suit : c.gc_enabled ≡ true → Suits features (offers c)
  unfolding offers values_suit
  offers_suit on = record { values = values_suit; on = on; gc_types = types_on }
