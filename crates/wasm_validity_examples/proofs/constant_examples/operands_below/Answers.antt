use Rattle.std.proofs.Common.{rules, [], ◌∷◌, refl}
use Rattle.wasm_spec.specs.Features.{Gc, GcTypes, ReferenceTypes}
use Rattle.wasm_spec.specs.Trees.{unrolled}
use Rattle.wasm_spec.specs.Types.{Abstract, Any, I31}
use Rattle.wasm_spec.proofs.Closures.{sound}
use Rattle.wasm_validity_examples.proofs.ConstantSubtypes.{itself, first_on, second_on, third_on, external_is_not_any}
use Rattle.wasm_validity_examples.proofs.constant_examples.operands_below.Goals as goal

pub returns-clause-scalar : goal.returns-clause-scalar
returns-clause-scalar c = λ features. (λ on. rw (first_on features Gc [] on) (tt, (record { null = λ e. refl; heap = sound unrolled (Abstract I31) (Abstract Any) refl }, itself)), search (rules))

pub returns-clause-null : goal.returns-clause-null
returns-clause-null c = λ features. (λ on. rw (first_on features ReferenceTypes (Gc ∷ GcTypes ∷ []) on) rw (second_on features ReferenceTypes Gc (GcTypes ∷ []) on) rw (third_on features ReferenceTypes Gc GcTypes [] on) (itself, itself), search (rules))

pub returns-clause-external : goal.returns-clause-external
returns-clause-external c = search (rules, external_is_not_any)
