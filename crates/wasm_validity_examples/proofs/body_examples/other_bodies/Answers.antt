use Rattle.std.proofs.Common.{[], ◌∷◌}
use Rattle.wasm_validity_examples.proofs.BodyKinds.{few_locals, other_code, untyped_code}
use Rattle.wasm_validity_examples.proofs.SmallModules.{some_test}
use Rattle.wasm_validity_examples.proofs.body_examples.other_bodies.Goals as goal

pub returns : goal.returns
returns c = record {
  other = λ features sections is_below tells. other_code features _;
  not_typed = λ features type typed. untyped_code features _ type (0x03 ∷ 0x00 ∷ 0x0b ∷ []) (typed some_test.0 some_test.1);
  not_past = λ features type few past. few_locals features _ type (0xfe ∷ 0x03 ∷ 0x00 ∷ 0x0b ∷ []) few (past some_test.0 some_test.1);
  not_broken = λ features broken. (broken some_test.0 some_test.1).2 (other_code features _);
}
