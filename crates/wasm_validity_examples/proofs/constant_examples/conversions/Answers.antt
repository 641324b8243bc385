use Rattle.std.proofs.Common.{rules, [], ◌∷◌, refl}
use Rattle.wasm_spec.specs.Features.{Gc, GcTypes, ReferenceTypes}
use Rattle.wasm_spec.specs.Subtyping.{same}
use Rattle.wasm_spec.specs.Trees.{unrolled}
use Rattle.wasm_spec.specs.Types.{Abstract, Any, Extern, I31, NoExtern}
use Rattle.wasm_spec.proofs.Closures.{sound}
use Rattle.wasm_validity_examples.proofs.ConstantSubtypes.{itself, first_on, second_on, third_on}
use Rattle.wasm_validity_examples.proofs.constant_examples.conversions.Goals as goal

pub returns-clause-scalar : goal.returns-clause-scalar
returns-clause-scalar c = λ features. (λ on. rw (first_on features Gc [] on) (tt, itself), search (rules))

pub returns-clause-inside : goal.returns-clause-inside
returns-clause-inside c = λ features. (
  λ on. rw (first_on features ReferenceTypes (Gc ∷ GcTypes ∷ []) on) rw (second_on features ReferenceTypes Gc (GcTypes ∷ []) on) rw (third_on features ReferenceTypes Gc GcTypes [] on)
      (same, itself),
  search (rules),
)

pub returns-clause-inside_of_none : goal.returns-clause-inside_of_none
returns-clause-inside_of_none c = λ features. (
  λ on. rw (first_on features ReferenceTypes (Gc ∷ GcTypes ∷ []) on) rw (second_on features ReferenceTypes Gc (GcTypes ∷ []) on) rw (third_on features ReferenceTypes Gc GcTypes [] on)
      (sound unrolled (Abstract NoExtern) (Abstract Extern) refl, itself),
  search (rules),
)

pub returns-clause-outside : goal.returns-clause-outside
returns-clause-outside c = λ features. (λ on. rw (first_on features Gc [] on) (tt, (sound unrolled (Abstract I31) (Abstract Any) refl, itself)), search (rules))
