use Rattle.wasm_smith_witness.proofs.ExampleLaws.{small_spelled, second_spelled, structures_spelled}
use Rattle.wasm_smith_witness.proofs.laws.small_spellings.Goals as goal

pub returns : goal.returns
returns c = record { one_type = small_spelled; second_of_two = second_spelled; two_structures = structures_spelled }
