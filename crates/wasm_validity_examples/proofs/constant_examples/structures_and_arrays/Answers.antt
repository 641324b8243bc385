use Rattle.std.proofs.Common.{rules, []}
use Rattle.wasm_spec.specs.Features.{Gc}
use Rattle.wasm_validity_examples.proofs.ConstantSubtypes.{itself, first_on}
use Rattle.wasm_validity_examples.proofs.constant_examples.structures_and_arrays.Goals as goal

pub returns-clause-structure : goal.returns-clause-structure
returns-clause-structure c = λ features. (λ on. rw (first_on features Gc [] on) (tt, (tt, itself)), search (rules))

pub returns-clause-default_structure : goal.returns-clause-default_structure
returns-clause-default_structure c = λ features. (λ on. rw (first_on features Gc [] on) itself, search (rules))

pub returns-clause-default_reference : goal.returns-clause-default_reference
returns-clause-default_reference c = λ features. (λ on. rw (first_on features Gc [] on) itself, search (rules))

pub returns-clause-array : goal.returns-clause-array
returns-clause-array c = λ features. (λ on. rw (first_on features Gc [] on) (tt, (tt, itself)), search (rules))

pub returns-clause-array_of_references : goal.returns-clause-array_of_references
returns-clause-array_of_references c = λ features. (λ on. rw (first_on features Gc [] on) (tt, (itself, itself)), search (rules))

pub returns-clause-default_array : goal.returns-clause-default_array
returns-clause-default_array c = λ features. (λ on. rw (first_on features Gc [] on) (tt, itself), search (rules))

pub returns-clause-fixed : goal.returns-clause-fixed
returns-clause-fixed c = λ features. (λ on. rw (first_on features Gc [] on) (itself, (itself, itself)), search (rules))

pub returns-clause-fixed_of_none : goal.returns-clause-fixed_of_none
returns-clause-fixed_of_none c = λ features. (λ on. rw (first_on features Gc [] on) itself, search (rules))
