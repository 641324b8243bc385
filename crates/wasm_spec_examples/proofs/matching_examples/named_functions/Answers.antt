use Rattle.std.proofs.Common.{◌≡◌, ℕ, List, [], ◌∷◌, arith, refl, ap, ◌∙◌, Some}
use Rattle.wasm_spec.specs.Subtyping.{IsOfKind, abstract_of}
use Rattle.wasm_spec.specs.Trees.{DefType, section_types, type_at, unrolled}
use Rattle.wasm_spec.specs.Types.{AbstractHeapType, Cont, ContComposite, Func, Group, RecGroup, Single, Struct, SubType}
use Rattle.wasm_spec.proofs.Closures.{same_defined}
use Rattle.wasm_spec_examples.specs.TypeExamples.{empty_structure, final_type, of_params}
use Rattle.wasm_spec_examples.proofs.matching_examples.named_functions.Goals as goal

-- the kind of a known type
kind_of_known : (r : DefType) (type : SubType DefType) (kind : AbstractHeapType) → unrolled r ≡ Some type → IsOfKind unrolled r kind → abstract_of type.composite_type ≡ kind
kind_of_known r type kind is d = ap (λ s. abstract_of s.composite_type) (same_defined unrolled r type d.type is d.is) ∙ d.holds

abbrev continuations : List (RecGroup ℕ)
continuations = Single (of_params 0) ∷ Single (final_type (ContComposite 0)) ∷ Single (final_type (ContComposite 1)) ∷ []

abbrev own_continuations : List (RecGroup ℕ)
own_continuations = Group (of_params 0 ∷ final_type (ContComposite 0) ∷ final_type (ContComposite 1) ∷ []) ∷ []

abbrev itself : List (RecGroup ℕ)
itself = Single (final_type (ContComposite 0)) ∷ []

abbrev structures : List (RecGroup ℕ)
structures = Group (final_type (ContComposite 1) ∷ final_type empty_structure ∷ []) ∷ []

pub returns : goal.returns
returns c = record {
  earlier = record {
    allowed = refl;
    in_range = (omega arith, tt);
    each = (
      record { earlier = tt; extends = record { at_most_one = omega arith; each = tt }; continues = tt },
      (record { earlier = tt; extends = record { at_most_one = omega arith; each = tt }; continues = record { type = of_params 0; is = refl; holds = refl } }, tt),
    );
  };
  later = record {
    allowed = refl;
    in_range = (omega arith, tt);
    each = (
      record { earlier = tt; extends = record { at_most_one = omega arith; each = tt }; continues = record { type = of_params 0; is = refl; holds = refl } },
      (record { earlier = tt; extends = record { at_most_one = omega arith; each = tt }; continues = tt }, tt),
    );
  };
  continuation = λ features rules.
      let e : Cont ≡ Func = kind_of_known (type_at (section_types continuations) 1) (final_type (ContComposite (type_at (section_types continuations) 0))) Func refl rules.each.0.continues in
      absurd cc;
  own_continuation = λ features rules.
      let e : Cont ≡ Func = kind_of_known (type_at (section_types own_continuations) 1) (final_type (ContComposite (type_at (section_types own_continuations) 0))) Func refl rules.each.1.1.0.continues in
      absurd cc;
  itself = λ features rules.
      let e : Cont ≡ Func = kind_of_known (type_at (section_types itself) 0) (final_type (ContComposite (type_at (section_types itself) 0))) Func refl rules.each.0.continues in
      absurd cc;
  later_structure = λ features rules.
      let e : Struct ≡ Func = kind_of_known (type_at (section_types structures) 1) (final_type empty_structure) Func refl rules.each.0.continues in
      absurd cc;
  features = refl;
}
