use Rattle.std.proofs.Common.{rules, [], ◌∷◌, refl}
use Rattle.wasm_spec.specs.Features.{ReferenceTypes, GcTypes}
use Rattle.wasm_spec.specs.Trees.{type_at, unrolled}
use Rattle.wasm_spec.specs.Types.{Func}
use Rattle.wasm_spec_examples.proofs.TypeKinds.{kind_below}
use Rattle.wasm_validity_examples.proofs.ConstantSubtypes.{itself, first_on, second_on}
use Rattle.wasm_validity_examples.specs.Examples.{with_types}
use Rattle.wasm_validity_examples.proofs.constant_examples.references.Goals as goal

pub returns-clause-null : goal.returns-clause-null
returns-clause-null c = λ features. (λ on. rw (first_on features ReferenceTypes [] on) itself, search (rules))

pub returns-clause-null_external : goal.returns-clause-null_external
returns-clause-null_external c = λ features.
    (λ on. rw (first_on features ReferenceTypes (GcTypes ∷ []) on) rw (second_on features ReferenceTypes GcTypes [] on) itself, search (rules))

pub returns-clause-null_of_a_type : goal.returns-clause-null_of_a_type
returns-clause-null_of_a_type c = λ features references gc. rw references rw gc itself

pub returns-clause-function : goal.returns-clause-function
returns-clause-function c = λ features. (
  λ on. rw (first_on features ReferenceTypes [] on)
      record { null = λ e. e; heap = kind_below unrolled (type_at (with_types []).types 1) Func Func (record { type = _; is = refl; holds = refl }) refl },
  search (rules),
)

pub returns-clause-function_of_its_type : goal.returns-clause-function_of_its_type
returns-clause-function_of_its_type c = λ features. (λ on. rw (first_on features ReferenceTypes [] on) itself, search (rules))

pub returns-clause-imported_function : goal.returns-clause-imported_function
returns-clause-imported_function c = λ features. (λ on. rw (first_on features ReferenceTypes [] on) itself, search (rules))
