use Rattle.std.proofs.Common.{rules, ◌∙◌}
use Rattle.wasm_gen_program.proofs.ExplanationLaws.{explained_line}
use Rattle.wasm_gen_program.proofs.run.run_check_explained.Goals as goal

pub returns : goal.returns
returns g c =
    let input = c.in_ok-bytes.ensures in
    record {
      ok = explained_line _ _ _ _ _ _ _ _ _ _ _ _ input.reached c.put_verdict.ensures (rw (← c.deref-2.ensures.value) c.in_ok-write_whole.ensures.whole) c.is_ok-is_yes.ensures.value
          (c.features.ensures ∙ input.session.features) (rw (← c.deref.ensures.value) c.explanation_of-explanation.ensures);
      front = tt;
      kinds = tt;
      input = search rules;
      output = search rules;
      session = search rules;
    }
