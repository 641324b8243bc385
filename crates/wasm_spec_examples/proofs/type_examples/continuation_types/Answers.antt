use Rattle.std.proofs.Common.{ℕ, [], ◌∷◌, refl}
use Rattle.std.specs.List.{slice_get}
use Rattle.wasm_spec.specs.Subtyping.{same, step}
use Rattle.wasm_spec.specs.Types.{FuncComposite, SubType}
use Rattle.wasm_spec.proofs.Elements.{contains_first}
use Rattle.wasm_spec_examples.specs.TypeExamples.{open_type, open_below, takes}
use Rattle.wasm_spec_examples.proofs.TypeKinds.{none_above}
use Rattle.wasm_spec_examples.proofs.type_examples.continuation_types.Goals as goal

abbrev upper : SubType ℕ
upper = open_type (FuncComposite (takes []))

abbrev lower : SubType ℕ
lower = open_below 0 (FuncComposite (takes []))

pub returns : goal.returns
returns c = record {
  below = step (record {
    declared = record { type = lower; is = refl; among = contains_first 0 [] };
    kind = record { type = upper; is = refl; holds = refl };
  }) same;
  above = λ m. let e = none_above (slice_get (upper ∷ lower ∷ [])) 0 1 upper refl refl m in absurd cc;
}
