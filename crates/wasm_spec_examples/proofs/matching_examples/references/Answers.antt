use Rattle.std.proofs.Common.{ℕ, [], ◌∷◌, refl}
use Rattle.std.specs.List.{slice_get}
use Rattle.wasm_spec.specs.Subtyping.{same, step}
use Rattle.wasm_spec.specs.Types.{Abstract, Any, Cont, ContComposite, Eq, I31, Struct, SubType}
use Rattle.wasm_spec.proofs.Closures.{sound, complete}
use Rattle.wasm_spec.proofs.Elements.{contains_first}
use Rattle.wasm_spec_examples.specs.TypeExamples.{empty_structure, final_type, one_of_each, open_below, open_type}
use Rattle.wasm_spec_examples.proofs.TypeKinds.{kind_above, kind_below, none_above}
use Rattle.wasm_spec_examples.proofs.matching_examples.references.Goals as goal

abbrev upper : SubType ℕ
upper = open_type empty_structure

abbrev lower : SubType ℕ
lower = open_below 0 empty_structure

abbrev continuation : SubType ℕ
continuation = final_type (ContComposite 0)

pub returns : goal.returns
returns c start = record {
  both = record {
    null = λ e. refl;
    heap = step (record {
      declared = record { type = lower; is = refl; among = contains_first 0 [] };
      kind = record { type = upper; is = refl; holds = refl };
    }) same;
  };
  null = λ h. let e = h.null refl in absurd cc;
  upward = λ h. let e = none_above (slice_get (upper ∷ lower ∷ [])) 0 1 upper refl refl h.heap in absurd cc;
  continuation = record { null = λ e. refl; heap = kind_below (slice_get one_of_each) 3 Cont Cont (record { type = continuation; is = refl; holds = refl }) refl };
  continuation_any = λ h. let e = kind_above (slice_get one_of_each) 3 Cont Any (record { type = continuation; is = refl; holds = refl }) h.heap in absurd cc;
  cont_any = λ sub_at h. let e = complete sub_at {a = Abstract Cont} {b = Abstract Any} h.heap in absurd cc;
  i31_eq = λ sub_at. record { null = λ e. refl; heap = sound sub_at (Abstract I31) (Abstract Eq) refl };
  i31_any = λ sub_at. record { null = λ e. refl; heap = sound sub_at (Abstract I31) (Abstract Any) refl };
  i31_struct = λ sub_at h. let e = complete sub_at {a = Abstract I31} {b = Abstract Struct} h.heap in absurd cc;
}
