use Rattle.wasm_bodies.specs.Bodies.{HasManyLocals, HasOtherOperator, IsFunctionBody}
use Rattle.wasm_validity_laws.proofs.OneTest.{by_all}
use Rattle.wasm_validity_laws.proofs.body_laws.by_one_test.Goals as goal

pub returns : goal.returns
returns c = record {
  typed = λ sections is_below tells features type bytes. by_all (λ items. IsFunctionBody features items type bytes) sections is_below tells;
  past = λ sections is_below tells features type bytes. by_all (λ items. HasManyLocals features items type bytes) sections is_below tells;
  other = λ sections is_below tells features type bytes. by_all (λ items. HasOtherOperator features items type bytes) sections is_below tells;
  broken = λ sections is_below tells features type bytes.
      by_all (λ items. (¬ (IsFunctionBody features items type bytes)) × (¬ (HasManyLocals features items type bytes)) × (¬ (HasOtherOperator features items type bytes))) sections is_below tells;
}
