-- Types that a module writes, with ids in place of their type indexes.
use Rattle.std.proofs.Common.{◌≡◌, ℕ, true, List, [], Option, Some, None, option_map, slice_get, inl, inr, refl, sym, subst, ◌∙◌}
use Rattle.wasm_spec.specs.Features.{Features}
use Rattle.wasm_spec.specs.Gates.{is_allowed}
use Rattle.wasm_spec.specs.Trees.{DefType}
use Rattle.wasm_spec.specs.TypeReferences.{val_map, val_refs}
use Rattle.wasm_spec.specs.Types.{Abstract, Concrete, ValType, I32, I64, F32, F64, V128, Ref}
use Rattle.wasm_validity.specs.ConstantTyping.{meant}
use Rattle.wasm_validity.specs.Context.{Context}
use Rattle.wasmparser_constants.specs.Operands.{meant_type}
use Rattle.wasmparser_constants.specs.Steps.{CanBeWanted, IsWanted}
use Rattle.wasmparser_module_types.proofs.Comparisons.{allowed_lower, allowed_upper, none_above}
use Rattle.wasmparser_module_types.specs.ModuleTypes.{KnownTypes, AreIds, CanCompare, stands_for}
use Rattle.wasmparser_types.specs.Index.{Index, number_of}

-- which types a gate lets through doesn't hang on what their indexes are
pub same_gate : {R S : Type 0} (features : Features) (f : R → S) (type : ValType R) → is_allowed features (val_map f type) ≡ is_allowed features type
same_gate features f I32 = refl
same_gate features f I64 = refl
same_gate features f F32 = refl
same_gate features f F64 = refl
same_gate features f V128 = refl
same_gate features f (Ref nullable (Abstract heap)) = refl
same_gate features f (Ref nullable (Concrete r)) = refl

meant_gate : (features : Features) (cx : Context) (type : ValType ℕ) (found : ValType DefType) → Some found ≡ meant cx type → is_allowed features found ≡ is_allowed features type
meant_gate features cx I32 found e = let same : found ≡ I32 = cc in rw same refl
meant_gate features cx I64 found e = let same : found ≡ I64 = cc in rw same refl
meant_gate features cx F32 found e = let same : found ≡ F32 = cc in rw same refl
meant_gate features cx F64 found e = let same : found ≡ F64 = cc in rw same refl
meant_gate features cx V128 found e = let same : found ≡ V128 = cc in rw same refl
meant_gate features cx (Ref nullable (Abstract heap)) found e = let same : found ≡ Ref nullable (Abstract heap) = cc in rw same refl
meant_gate features cx (Ref nullable (Concrete index)) found e = by_found (slice_get cx.types index) e
  where
    by_found : (at : Option DefType) → Some found ≡ option_map (λ defined. Ref nullable defined) (option_map (λ type. Concrete type) at) → is_allowed features found ≡ is_allowed features (Ref nullable (Concrete index))
    by_found None e = absurd cc
    by_found (Some type) e = let same : found ≡ Ref nullable (Concrete type) = cc in rw same refl

no_refs : (known : KnownTypes) (cx : Context) (type new : ValType Index) → Some (meant_type known new) ≡ meant cx (val_map number_of type) → val_refs type ≡ [] → val_refs new ≡ []
no_refs known cx type new same none = by_types type new same none
  where
    by_types : (type new : ValType Index) → Some (meant_type known new) ≡ meant cx (val_map number_of type) → val_refs type ≡ [] → val_refs new ≡ []
    by_types type I32 same none = refl
    by_types type I64 same none = refl
    by_types type F32 same none = refl
    by_types type F64 same none = refl
    by_types type V128 same none = refl
    by_types type (Ref nullable (Abstract heap)) same none = refl
    by_types I32 (Ref nullable (Concrete r)) same none = absurd cc
    by_types I64 (Ref nullable (Concrete r)) same none = absurd cc
    by_types F32 (Ref nullable (Concrete r)) same none = absurd cc
    by_types F64 (Ref nullable (Concrete r)) same none = absurd cc
    by_types V128 (Ref nullable (Concrete r)) same none = absurd cc
    by_types (Ref null (Abstract heap)) (Ref nullable (Concrete r)) same none = absurd cc
    by_types (Ref null (Concrete index)) (Ref nullable (Concrete r)) same none = absurd cc

module _ (known : KnownTypes) (cx : Context) (type new : ValType Index) (same : Some (meant_type known new) ≡ meant cx (val_map number_of type)) where
  allowed : is_allowed known.features type ≡ true → is_allowed known.features new ≡ true
  allowed is =
      sym (same_gate known.features (stands_for known) new) ∙ meant_gate known.features cx (val_map number_of type) (meant_type known new) same ∙ same_gate known.features number_of type ∙ is

  pub wanted : AreIds known (val_refs new) → CanBeWanted known.features type → IsWanted known new
  wanted ids (inl is) = record { ids = ids; comparable = λ lower. allowed_upper known.features lower new (allowed is) }
  wanted ids (inr none) =
      record { ids = ids; comparable = λ lower. subst (CanCompare known.features lower) (sym (no_refs known cx type new same none)) (inr (none_above lower)) }

  pub comparable_below : (upper : List Index) → CanBeWanted known.features type → CanCompare known.features (val_refs new) upper
  comparable_below upper (inl is) = allowed_lower known.features new upper (allowed is)
  comparable_below upper (inr none) = subst (λ lower. CanCompare known.features lower upper) (sym (no_refs known cx type new same none)) (inr tt)
