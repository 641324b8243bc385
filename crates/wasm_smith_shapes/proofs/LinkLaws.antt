-- The supertype of a type that has one.
use Rattle.std.proofs.Common.{◌≡◌, ◌↔◌, ℕ, Bool, true, false, List, [], ◌∷◌, Some, None, IsTrue, slice_get, sym, ap, ◌∙◌, subst}
use Rattle.std.specs.Option.{option_to_list}
use Rattle.std.specs.List.{AllByRecursion}
use Rattle.wasm_core_types.specs.SubTypes.{composite_type, sub_type}
use Rattle.wasm_core_types.specs.declared.types.SubType as code
use Rattle.wasm_spec.specs.Groups.{Extends}
use Rattle.wasm_spec.specs.Matching.{CompositeMatches}
use Rattle.wasm_spec.specs.Subtyping.{IsOfKind, abstract_of}
use Rattle.wasm_spec.specs.Types.{SubType}
use Rattle.wasm_smith_shapes.specs.Groups.{HasKindAbove}

some_is : {X : Type 0} (x y : X) → Some x ≡ Some y → x ≡ y
some_is x y e = cc

module _ (types : List (SubType ℕ)) (type : code.SubType) (supertype : ℕ) (link : type.supertype_idx ≡ Some supertype) where
  supertypes_are : (sub_type type).supertypes ≡ supertype ∷ []
  supertypes_are = ap option_to_list link

  -- one supertype has a property where all have it
  pub for_one : (P : ℕ → Type 0) → AllByRecursion P (sub_type type).supertypes ↔ P supertype
  for_one P = (
    (λ all. (subst (λ xs. AllByRecursion P xs) supertypes_are all).0),
    (λ one. subst (λ xs. AllByRecursion P xs) (sym supertypes_are) (one, tt)),
  )

  pub kind_there : (above : code.SubType) (result : Bool) → slice_get types supertype ≡ Some (sub_type above)
      → (IsTrue result ↔ (abstract_of (composite_type above.composite_type) ≡ abstract_of (composite_type type.composite_type)))
      → IsTrue result ↔ HasKindAbove types (sub_type type)
  kind_there above result is told =
      let P : ℕ → Type 0 = λ s. IsOfKind (slice_get types) s (abstract_of (sub_type type).composite_type) in (
        (λ yes. (for_one P).1 (record { type = sub_type above; is = is; holds = told.0 yes })),
        (λ all.
            let d = (for_one P).0 all in
            let one : d.type ≡ sub_type above = some_is d.type (sub_type above) (sym d.is ∙ is) in
            let Q : SubType ℕ → Type 0 = λ t. abstract_of t.composite_type ≡ abstract_of (composite_type type.composite_type) in
            told.1 (subst Q one d.holds)),
      )

  pub no_kind_there : slice_get types supertype ≡ None → HasKindAbove types (sub_type type) → ⊥
  no_kind_there out all =
      let P : ℕ → Type 0 = λ s. IsOfKind (slice_get types) s (abstract_of (sub_type type).composite_type) in
      let d = (for_one P).0 all in
      let no : None ≡ Some d.type = sym out ∙ d.is in
      absurd cc

  pub extends_there : (above : code.SubType) (result : Bool) → slice_get types supertype ≡ Some (sub_type above) → above.is_final ≡ false
      → (IsTrue result ↔ CompositeMatches (slice_get types) (composite_type type.composite_type) (composite_type above.composite_type))
      → IsTrue result ↔ AllByRecursion (Extends (slice_get types) (sub_type type)) (sub_type type).supertypes
  extends_there above result is is_open told =
      let P : ℕ → Type 0 = Extends (slice_get types) (sub_type type) in (
        (λ yes. (for_one P).1 (record { supertype = sub_type above; is = is; is_open = is_open; matches = told.0 yes })),
        (λ all.
            let d = (for_one P).0 all in
            let one : d.supertype ≡ sub_type above = some_is d.supertype (sub_type above) (sym d.is ∙ is) in
            let Q : SubType ℕ → Type 0 = λ t. CompositeMatches (slice_get types) (composite_type type.composite_type) t.composite_type in
            told.1 (subst Q one d.matches)),
      )

  pub final_there : (above : code.SubType) → slice_get types supertype ≡ Some (sub_type above) → above.is_final ≡ true
      → AllByRecursion (Extends (slice_get types) (sub_type type)) (sub_type type).supertypes → ⊥
  final_there above is is_final all =
      let P : ℕ → Type 0 = Extends (slice_get types) (sub_type type) in
      let d = (for_one P).0 all in
      let one : d.supertype ≡ sub_type above = some_is d.supertype (sub_type above) (sym d.is ∙ is) in
      let Q : SubType ℕ → Type 0 = λ t. t.is_final ≡ false in
      let is_open : above.is_final ≡ false = subst Q one d.is_open in
      let both : true ≡ false = sym is_final ∙ is_open in
      absurd cc

  pub none_there : slice_get types supertype ≡ None → AllByRecursion (Extends (slice_get types) (sub_type type)) (sub_type type).supertypes → ⊥
  none_there out all =
      let P : ℕ → Type 0 = Extends (slice_get types) (sub_type type) in
      let d = (for_one P).0 all in
      let no : None ≡ Some d.supertype = sym out ∙ d.is in
      absurd cc
