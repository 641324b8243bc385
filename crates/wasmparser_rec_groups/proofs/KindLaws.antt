-- The tests on kinds are what they stand for.
use Rattle.std.proofs.Common.{◌≡◌, ◌↔◌, Bool, true, List, [], ◌∷◌, Option, Some, None, refl}
use Rattle.std.specs.List.{AllByRecursion, list_all}
use Rattle.wasm_spec.specs.Subtyping.{IsOfKind, SubTypes, abstract_of}
use Rattle.wasm_spec.specs.Types.{ArrayComposite, CompositeType, ContComposite, FuncComposite, StructComposite, SubType}
use Rattle.wasmparser_rec_groups.proofs.CanonicalGroups.{both_true}
use Rattle.wasmparser_rec_groups.specs.KindTests.{has_supertypes_of_kind, have_supertypes_of_kind, is_like, is_of_one_kind}
use Rattle.wasmparser_rec_groups.specs.Kinds.{HasSupertypesOfKind, HaveSupertypesOfKind}
use Rattle.wasmparser_types.specs.Index.{Index}

like_kind : (a b : CompositeType Index) → is_of_one_kind a b ≡ true → abstract_of a ≡ abstract_of b
like_kind (FuncComposite a) (FuncComposite b) h = refl
like_kind (FuncComposite a) (StructComposite b) h = absurd cc
like_kind (FuncComposite a) (ArrayComposite b) h = absurd cc
like_kind (FuncComposite a) (ContComposite b) h = absurd cc
like_kind (StructComposite a) (FuncComposite b) h = absurd cc
like_kind (StructComposite a) (StructComposite b) h = refl
like_kind (StructComposite a) (ArrayComposite b) h = absurd cc
like_kind (StructComposite a) (ContComposite b) h = absurd cc
like_kind (ArrayComposite a) (FuncComposite b) h = absurd cc
like_kind (ArrayComposite a) (StructComposite b) h = absurd cc
like_kind (ArrayComposite a) (ArrayComposite b) h = refl
like_kind (ArrayComposite a) (ContComposite b) h = absurd cc
like_kind (ContComposite a) (FuncComposite b) h = absurd cc
like_kind (ContComposite a) (StructComposite b) h = absurd cc
like_kind (ContComposite a) (ArrayComposite b) h = absurd cc
like_kind (ContComposite a) (ContComposite b) h = refl

kind_like : (a b : CompositeType Index) → abstract_of a ≡ abstract_of b → is_of_one_kind a b ≡ true
kind_like (FuncComposite a) (FuncComposite b) h = refl
kind_like (FuncComposite a) (StructComposite b) h = absurd cc
kind_like (FuncComposite a) (ArrayComposite b) h = absurd cc
kind_like (FuncComposite a) (ContComposite b) h = absurd cc
kind_like (StructComposite a) (FuncComposite b) h = absurd cc
kind_like (StructComposite a) (StructComposite b) h = refl
kind_like (StructComposite a) (ArrayComposite b) h = absurd cc
kind_like (StructComposite a) (ContComposite b) h = absurd cc
kind_like (ArrayComposite a) (FuncComposite b) h = absurd cc
kind_like (ArrayComposite a) (StructComposite b) h = absurd cc
kind_like (ArrayComposite a) (ArrayComposite b) h = refl
kind_like (ArrayComposite a) (ContComposite b) h = absurd cc
kind_like (ContComposite a) (FuncComposite b) h = absurd cc
kind_like (ContComposite a) (StructComposite b) h = absurd cc
kind_like (ContComposite a) (ArrayComposite b) h = absurd cc
kind_like (ContComposite a) (ContComposite b) h = refl

module _ {X : Type 0} (test : X → Bool) (P : X → Type 0) (one : (x : X) → (test x ≡ true) ↔ P x) where
  every : (xs : List X) → list_all test xs ≡ true → AllByRecursion P xs
  every [] h = tt
  every (x ∷ xs) h = let parts = both_true (test x) (list_all test xs) h in ((one x).0 parts.0, every xs parts.1)

  tested : (xs : List X) → AllByRecursion P xs → list_all test xs ≡ true
  tested [] h = refl
  tested (x ∷ xs) h = rw ((one x).1 h.0, tested xs h.1) refl

like_iff : (sub_at : SubTypes Index) (composite : CompositeType Index) (r : Index) → (is_like composite (sub_at r) ≡ true) ↔ IsOfKind sub_at r (abstract_of composite)
like_iff sub_at composite r = (to (sub_at r) refl, λ of. from (sub_at r) of.type of.is of.holds) where
  to : (found : Option (SubType Index)) → sub_at r ≡ found → is_like composite found ≡ true → IsOfKind sub_at r (abstract_of composite)
  to (Some type) is h = record { type = type; is = is; holds = like_kind type.composite_type composite h }
  to None is h = absurd cc

  from : (found : Option (SubType Index)) (type : SubType Index) → found ≡ Some type → abstract_of type.composite_type ≡ abstract_of composite → is_like composite found ≡ true
  from (Some other) type is kind = let one : other ≡ type = cc in rw one (kind_like type.composite_type composite kind)
  from None type is kind = absurd cc

type_iff : (sub_at : SubTypes Index) (type : SubType Index) → (has_supertypes_of_kind sub_at type ≡ true) ↔ HasSupertypesOfKind sub_at type
type_iff sub_at type = (
  every (λ r. is_like type.composite_type (sub_at r)) (λ r. IsOfKind sub_at r (abstract_of type.composite_type)) (like_iff sub_at type.composite_type) type.supertypes,
  tested (λ r. is_like type.composite_type (sub_at r)) (λ r. IsOfKind sub_at r (abstract_of type.composite_type)) (like_iff sub_at type.composite_type) type.supertypes,
)

pub kinds_iff : (sub_at : SubTypes Index) (types : List (SubType Index)) → (have_supertypes_of_kind sub_at types ≡ true) ↔ HaveSupertypesOfKind sub_at types
kinds_iff sub_at types =
    (every (has_supertypes_of_kind sub_at) (HasSupertypesOfKind sub_at) (type_iff sub_at) types, tested (has_supertypes_of_kind sub_at) (HasSupertypesOfKind sub_at) (type_iff sub_at) types)
