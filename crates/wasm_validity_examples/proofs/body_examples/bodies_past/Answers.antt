use Rattle.std.proofs.Common.{[], ◌∷◌, ◌++◌}
use Rattle.wasm_validity_examples.proofs.BodyKinds.{many_locals, too_many}
use Rattle.wasm_validity_examples.proofs.SmallModules.{some_test}
use Rattle.wasm_validity_examples.proofs.body_examples.bodies_past.Goals as goal

pub returns : goal.returns
returns c = record {
  past = λ features sections type is_below tells. many_locals features _ type;
  not_typed = λ features type typed.
      let b = typed some_test.0 some_test.1 in
      too_many features _ type b.locals_encoding b.code_encoding (0x7f ∷ 0x00 ∷ 0x0b ∷ []) b.runs b.locals b.begins;
  not_other = λ features type other.
      let h = other some_test.0 some_test.1 in
      too_many features _ type h.locals_encoding (h.code_encoding ++ (h.other ++ h.rest)) (0x7f ∷ 0x00 ∷ 0x0b ∷ []) h.runs h.locals h.begins;
  not_broken = λ features type broken. (broken some_test.0 some_test.1).1 (many_locals features _ type);
}
