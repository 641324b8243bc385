use Rattle.std.proofs.Common.{◌≡◌, [], ◌∷◌, arith, true, false, refl, ap, sym, ◌∙◌}
use Rattle.wasm_spec.specs.Subtyping.{abstract_of}
use Rattle.wasm_spec.specs.Trees.{DefType, section_types, type_at, types_after, unrolled}
use Rattle.wasm_spec.specs.Types.{I32, Array, ArrayComposite, ContComposite, Func, Single, Struct, SubType}
use Rattle.wasm_spec.proofs.Closures.{same_defined}
use Rattle.wasm_spec_examples.specs.TypeExamples.{const_field, empty_structure, final_type, of_params}
use Rattle.wasm_spec_examples.proofs.type_examples.continuations.Goals as goal

abbrev array_type : SubType DefType
array_type = final_type (ArrayComposite (const_field I32))

pub returns : goal.returns
returns c = record {
  function = record {
    allowed = refl;
    in_range = (omega arith, tt);
    each = (record { earlier = tt; extends = record { at_most_one = omega arith; each = tt }; continues = record { type = of_params 0; is = refl; holds = refl } }, tt);
  };
  structure = λ features rules.
      let d = rules.each.0.continues in
      let one : d.type ≡ final_type empty_structure =
      same_defined unrolled (type_at (types_after (section_types (Single (final_type empty_structure) ∷ [])) (Single (final_type (ContComposite 0)))) 0) d.type (final_type empty_structure) d.is refl in
      let e : Struct ≡ Func = ap (λ s. abstract_of s.composite_type) (sym one) ∙ d.holds in
      absurd cc;
  array = λ features rules.
      let d = rules.each.0.continues in
      let one : d.type ≡ array_type =
      same_defined unrolled (type_at (types_after (section_types (Single (final_type (ArrayComposite (const_field I32))) ∷ [])) (Single (final_type (ContComposite 0)))) 0) d.type array_type d.is refl in
      let e : Array ≡ Func = ap (λ s. abstract_of s.composite_type) (sym one) ∙ d.holds in
      absurd cc;
  without = λ rules. let e : false ≡ true = rules.allowed in absurd cc;
  features = refl;
}
