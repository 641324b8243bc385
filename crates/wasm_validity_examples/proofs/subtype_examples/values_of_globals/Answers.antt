use Rattle.std.proofs.Common.{rules, refl}
use Rattle.wasm_spec.specs.Types.{Func}
use Rattle.wasm_spec.specs.Trees.{unrolled}
use Rattle.wasm_spec_examples.proofs.TypeKinds.{kind_below}
use Rattle.wasm_validity_examples.proofs.ConstantSubtypes.{itself}
use Rattle.wasm_validity_examples.proofs.RelatedTypes.{at, function, not_two_upward, not_upward, one_link, other_place, two_links}
use Rattle.wasm_validity_examples.proofs.subtype_examples.values_of_globals.Goals as goal

pub returns-clause-below : goal.returns-clause-below
returns-clause-below c = λ features references gc. record { type = rw references rw gc refl; initialiser = record { null = λ e. refl; heap = one_link } }

pub returns-clause-above : goal.returns-clause-above
returns-clause-above c = λ features k. not_upward k.initialiser.heap

pub returns-clause-equal : goal.returns-clause-equal
returns-clause-equal c = λ features references gc. record { type = rw references rw gc refl; initialiser = itself }

pub returns-clause-other_place : goal.returns-clause-other_place
returns-clause-other_place c = λ features k. other_place k.initialiser.heap

pub returns-clause-kind : goal.returns-clause-kind
returns-clause-kind c = λ features references gc. record { type = rw references refl; initialiser = record { null = λ e. refl; heap = kind_below unrolled (at 3) Func Func function refl } }

pub returns-clause-null_of_a_lower_type : goal.returns-clause-null_of_a_lower_type
returns-clause-null_of_a_lower_type c = λ features references gc. record { type = rw references rw gc refl; initialiser = rw references rw gc record { null = λ e. refl; heap = two_links } }

pub returns-clause-null_of_a_higher_type : goal.returns-clause-null_of_a_higher_type
returns-clause-null_of_a_higher_type c = search (rules, not_two_upward)
