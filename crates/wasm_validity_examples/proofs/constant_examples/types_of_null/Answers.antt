use Rattle.std.proofs.Common.{rules, [], ◌∷◌, refl}
use Rattle.wasm_spec.specs.Features.{Gc, GcTypes, ReferenceTypes}
use Rattle.wasm_spec.specs.Trees.{unrolled}
use Rattle.wasm_spec.specs.Types.{Abstract, Func, NoFunc}
use Rattle.wasm_spec.proofs.Closures.{sound}
use Rattle.wasm_validity_examples.proofs.ConstantSubtypes.{itself, first_on, second_on, third_on, function_is_not_external, function_is_not_lowest}
use Rattle.wasm_validity_examples.proofs.constant_examples.types_of_null.Goals as goal

pub returns-clause-written : goal.returns-clause-written
returns-clause-written c = search (rules, function_is_not_lowest)

pub returns-clause-lowest : goal.returns-clause-lowest
returns-clause-lowest c = λ features. (λ on. rw (first_on features ReferenceTypes (Gc ∷ GcTypes ∷ []) on) rw (second_on features ReferenceTypes Gc (GcTypes ∷ []) on) rw (third_on features ReferenceTypes Gc GcTypes [] on) itself, search (rules))

pub returns-clause-below : goal.returns-clause-below
returns-clause-below c = λ features. (λ on. rw (first_on features ReferenceTypes (Gc ∷ GcTypes ∷ []) on) rw (second_on features ReferenceTypes Gc (GcTypes ∷ []) on) rw (third_on features ReferenceTypes Gc GcTypes [] on) record { null = λ e. e; heap = sound unrolled (Abstract NoFunc) (Abstract Func) refl }, search (rules))

pub returns-clause-other_kind : goal.returns-clause-other_kind
returns-clause-other_kind c = search (rules, function_is_not_external)
