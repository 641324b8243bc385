use Rattle.std.proofs.Common.{ℕ, [], ◌∷◌, refl}
use Rattle.std.specs.List.{slice_get}
use Rattle.wasm_spec.specs.Subtyping.{same, step}
use Rattle.wasm_spec.specs.Types.{Func, None, FuncComposite, StructComposite, SubType}
use Rattle.wasm_spec.proofs.Elements.{contains_first}
use Rattle.wasm_spec_examples.specs.TypeExamples.{open_type, open_below, takes}
use Rattle.wasm_spec_examples.proofs.TypeKinds.{bottom_alone, same_kind, none_above}
use Rattle.wasm_spec_examples.proofs.type_examples.links.Goals as goal

abbrev empty : SubType ℕ
empty = open_type (StructComposite [])

abbrev empty_below : SubType ℕ
empty_below = open_below 0 (StructComposite [])

abbrev function : SubType ℕ
function = open_type (FuncComposite (takes []))

pub returns : goal.returns
returns c = record {
  one_kind = step (record {
    declared = record { type = empty_below; is = refl; among = contains_first 0 [] };
    kind = record { type = empty; is = refl; holds = refl };
  }) same;
  two_kinds = λ h. let e = same_kind (slice_get (function ∷ empty_below ∷ [])) 1 0 empty_below function refl refl h in cc;
  none = λ h. let e = bottom_alone (slice_get (function ∷ empty_below ∷ [])) 0 Func None (record { type = function; is = refl; holds = refl }) h in cc;
  upward = λ h. let e = none_above (slice_get (empty ∷ empty_below ∷ [])) 0 1 empty refl refl h in absurd cc;
  undeclared = λ h. let e = none_above (slice_get (empty ∷ empty ∷ [])) 1 0 empty refl refl h in absurd cc;
}
