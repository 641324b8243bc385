use Rattle.wasm_validity_laws.proofs.BelowTest.{a_test}
use Rattle.wasm_validity_laws.proofs.body_laws.a_test.Goals as goal

pub returns : goal.returns
returns c = a_test
