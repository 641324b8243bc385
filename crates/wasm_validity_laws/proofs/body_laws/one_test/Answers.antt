use Rattle.wasm_bodies.specs.Bodies.{HasManyLocals, HasOtherOperator, IsFunctionBody}
use Rattle.wasm_validity_laws.proofs.OneTest.{by_either, tests_are_one}
use Rattle.wasm_validity_laws.proofs.body_laws.one_test.Goals as goal

pub returns : goal.returns
returns c = record {
  tests = tests_are_one;
  bodies = λ types cx a b first second features type bytes. by_either (λ items. IsFunctionBody features items type bytes) types cx a b first second;
  many_locals = λ types cx a b first second features type bytes. by_either (λ items. HasManyLocals features items type bytes) types cx a b first second;
  other_operators = λ types cx a b first second features type bytes. by_either (λ items. HasOtherOperator features items type bytes) types cx a b first second;
}
