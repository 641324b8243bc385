use Rattle.std.proofs.Common.{refl}
use Rattle.wasm_validity_examples.proofs.ConstantSubtypes.{itself}
use Rattle.wasm_validity_examples.proofs.RelatedTypes.{link_of_functions, no_function_upward, not_declared, not_two_upward, not_upward, one_link, other_kind, two_links}
use Rattle.wasm_validity_examples.proofs.subtype_examples.declared_types.Goals as goal

pub returns-clause-supertype : goal.returns-clause-supertype
returns-clause-supertype c = record { null = λ e. refl; heap = one_link }

pub returns-clause-subtype : goal.returns-clause-subtype
returns-clause-subtype c = λ b. not_upward b.heap

pub returns-clause-two_links : goal.returns-clause-two_links
returns-clause-two_links c = record { null = λ e. refl; heap = two_links }

pub returns-clause-two_links_down : goal.returns-clause-two_links_down
returns-clause-two_links_down c = λ b. not_two_upward b.heap

pub returns-clause-function : goal.returns-clause-function
returns-clause-function c = record { null = λ e. refl; heap = link_of_functions }

pub returns-clause-function_down : goal.returns-clause-function_down
returns-clause-function_down c = λ b. no_function_upward b.heap

pub returns-clause-itself : goal.returns-clause-itself
returns-clause-itself c = itself

pub returns-clause-not_declared : goal.returns-clause-not_declared
returns-clause-not_declared c = λ b. not_declared b.heap

pub returns-clause-other_kind : goal.returns-clause-other_kind
returns-clause-other_kind c = λ b. other_kind b.heap

pub returns-clause-not_null : goal.returns-clause-not_null
returns-clause-not_null c = record { null = λ e. refl; heap = one_link }
