use Rattle.std.proofs.Common.{rules, [], ◌∷◌, refl}
use Rattle.wasm_spec.specs.Features.{Gc, GcTypes, ReferenceTypes}
use Rattle.wasm_spec.specs.Subtyping.{same}
use Rattle.wasm_spec.specs.Trees.{unrolled}
use Rattle.wasm_spec.specs.Types.{Abstract, Any, I31}
use Rattle.wasm_spec.proofs.Closures.{sound}
use Rattle.wasm_validity_examples.proofs.ConstantSubtypes.{itself, first_on, second_on, third_on, any_is_no_scalar, any_is_not_external, external_is_not_any, function_is_not_any}
use Rattle.wasm_validity_examples.proofs.constant_examples.converted_references.Goals as goal

pub returns-clause-null_outside : goal.returns-clause-null_outside
returns-clause-null_outside c = λ features. (λ on. rw (first_on features ReferenceTypes (Gc ∷ GcTypes ∷ []) on) rw (second_on features ReferenceTypes Gc (GcTypes ∷ []) on) rw (third_on features ReferenceTypes Gc GcTypes [] on) (same, itself), search (rules))

pub returns-clause-there_and_back : goal.returns-clause-there_and_back
returns-clause-there_and_back c = λ features. (λ on. rw (first_on features Gc [] on) (tt, (sound unrolled (Abstract I31) (Abstract Any) refl, (same, itself))), search (rules))

pub returns-clause-no_scalar : goal.returns-clause-no_scalar
returns-clause-no_scalar c = search (rules, any_is_no_scalar)

pub returns-clause-inside_already : goal.returns-clause-inside_already
returns-clause-inside_already c = search (rules, any_is_not_external)

pub returns-clause-outside_already : goal.returns-clause-outside_already
returns-clause-outside_already c = search (rules, external_is_not_any)

pub returns-clause-of_functions : goal.returns-clause-of_functions
returns-clause-of_functions c = search (rules, function_is_not_any)
