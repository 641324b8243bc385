use Rattle.std.proofs.Common.{rules, ◌≢◌}
use Rattle.std.specs.Prelude.{IfErr}
use Rattle.wasmparser_error.specs.declared.error.ErrorKind.TheVariants.{Memory}
use Rattle.wasm_gen_program.proofs.ExplanationLaws.{reached_on}
use Rattle.wasm_gen_program.proofs.run.check_input.Goals as goal
use Rattle.wasm_gen_program.proofs.run.check_input.Goals.{in-Err+else-eq, in_default}

pub returns : goal.returns
returns g c =
    let read = c.in_ok-bytes.ensures in
    let is_verdict : IfErr c.check-verdict.result (λ e. e.kind ≢ Memory) = elim c.match-verdict.branch [
      | in-Err+else-eq w ↦ search rules
      | in_default w ↦ search rules
    ] in
    record {
      reached = reached_on _ _ _ _ _ _ _ c.deref.ensures.value read.whole read.within c.check-verdict.ensures is_verdict;
      kinds = tt;
      input = search rules;
      session = search rules;
    }
