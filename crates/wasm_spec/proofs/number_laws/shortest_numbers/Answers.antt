use Rattle.wasm_spec.proofs.NumberLaws.{shortest_unsigned, shortest_positive, shortest_negative}
use Rattle.wasm_spec.proofs.number_laws.shortest_numbers.Goals as goal

pub returns : goal.returns
returns c = record { unsigned = shortest_unsigned; positive = shortest_positive; negative = shortest_negative }
