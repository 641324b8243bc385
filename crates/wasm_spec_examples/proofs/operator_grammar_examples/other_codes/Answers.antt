use Rattle.std.proofs.Common.{[], ◌∷◌, refl, arith}
use Rattle.wasm_bodies.specs.OperatorRows.{Byte, Prefixed}
use Rattle.wasm_spec.proofs.Encodings.{small}
use Rattle.wasm_spec_examples.proofs.SmallOperators.{padded}
use Rattle.wasm_spec_examples.proofs.operator_grammar_examples.other_codes.Goals as goal

pub returns-clause-byte : goal.returns-clause-byte
returns-clause-byte c = (Byte 0xfe, (refl, omega arith, refl), refl)

pub returns-clause-second_code : goal.returns-clause-second_code
returns-clause-second_code c = (Prefixed 0xfb 2, ((0x02 ∷ [], refl, small 2 (omega arith)), refl), refl)

pub returns-clause-padded : goal.returns-clause-padded
returns-clause-padded c = (Prefixed 0xfd 0, ((0x80 ∷ 0x00 ∷ [], refl, padded 0 (omega arith)), refl), refl)
