use Rattle.std.proofs.Common.{[], ◌∷◌, arith}
use Rattle.wasm_spec.specs.Types.{I32}
use Rattle.wasm_spec_examples.specs.TypeExamples.{gives, takes}
use Rattle.wasm_validity_examples.proofs.BodyKinds.{ends_at_once, few_locals, no_end, no_other_code}
use Rattle.wasm_validity_examples.proofs.SmallModules.{some_test}
use Rattle.wasm_validity_examples.proofs.body_examples.broken_bodies.Goals as goal

pub returns : goal.returns
returns c = record {
  no_end = λ features sections is_below tells.
      (λ b. no_end features _ (takes []) b, λ m. few_locals features _ (takes []) [] (omega arith) m, λ h. no_other_code features _ (takes []) h);
  no_result = λ features h. let e = ends_at_once features _ (gives (I32 ∷ [])) (h some_test.0 some_test.1) in absurd cc;
  not_typed = λ features type body broken typed. (broken some_test.0 some_test.1).0 (typed some_test.0 some_test.1);
  not_past = λ features type body broken past. (broken some_test.0 some_test.1).1 (past some_test.0 some_test.1);
  not_other = λ features type body broken other. (broken some_test.0 some_test.1).2 (other some_test.0 some_test.1);
}
