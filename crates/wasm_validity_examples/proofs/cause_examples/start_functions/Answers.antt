use Rattle.wasm_validity_examples.proofs.cause_examples.start_functions.Goals as goal

pub returns : goal.returns
returns c = record {
  gives = λ features bodies f. let e = f.rules.1.1.0 in absurd cc;
  none = λ features bodies f. let e = f.rules.1.1.0 in absurd cc;
}
