use Rattle.std.proofs.Common.{refl}
use Rattle.wasm_validity_examples.proofs.ConstantSubtypes.{itself}
use Rattle.wasm_validity_examples.proofs.RelatedTypes.{next_link, not_alone, of_a_larger_group, one_link, other_place}
use Rattle.wasm_validity_examples.proofs.subtype_examples.equal_types.Goals as goal

pub returns-clause-upward : goal.returns-clause-upward
returns-clause-upward c = itself

pub returns-clause-downward : goal.returns-clause-downward
returns-clause-downward c = itself

pub returns-clause-below_the_other : goal.returns-clause-below_the_other
returns-clause-below_the_other c = record { null = λ e. refl; heap = one_link }

pub returns-clause-lower : goal.returns-clause-lower
returns-clause-lower c = record { null = λ e. refl; heap = next_link }

pub returns-clause-second_places : goal.returns-clause-second_places
returns-clause-second_places c = itself

pub returns-clause-other_place : goal.returns-clause-other_place
returns-clause-other_place c = λ b. other_place b.heap

pub returns-clause-place_of_another_group : goal.returns-clause-place_of_another_group
returns-clause-place_of_another_group c = λ b. other_place b.heap

pub returns-clause-of_a_larger_group : goal.returns-clause-of_a_larger_group
returns-clause-of_a_larger_group c = λ b. of_a_larger_group b.heap

pub returns-clause-alone : goal.returns-clause-alone
returns-clause-alone c = λ b. not_alone b.heap
