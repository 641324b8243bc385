use Rattle.std.proofs.Common.{rules, []}
use Rattle.wasm_spec.specs.Features.{Gc}
use Rattle.wasm_validity_examples.proofs.ConstantSubtypes.{itself, first_on}
use Rattle.wasm_validity_examples.proofs.constant_examples.default_values.Goals as goal

pub returns-clause-given : goal.returns-clause-given
returns-clause-given c = λ features. (λ on. rw (first_on features Gc [] on) (itself, (tt, itself)), search (rules))

pub returns-clause-null_items : goal.returns-clause-null_items
returns-clause-null_items c = λ features. (λ on. rw (first_on features Gc [] on) (tt, itself), search (rules))
