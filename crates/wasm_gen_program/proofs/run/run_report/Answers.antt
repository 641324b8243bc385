use Rattle.std.proofs.Common.{rules, ◌≡◌, Result, Ok, Err, inr}
use Rattle.std.specs.Prelude.{IfErr, IsOk}
use Rattle.wasmparser_error.specs.declared.error.ErrorKind.TheVariants.{Memory}
use Rattle.wasm_gen_program.proofs.WriteLaws.{none_written}
use Rattle.wasm_gen_program.proofs.run.run_report.Goals as goal

ok_has_no_error : {A E : Type 0} (P : E → Type 0) (v : Result A E) → IsOk v → IfErr v P
ok_has_no_error P (Ok x) is = tt
ok_has_no_error P (Err e) is = absurd cc

pub returns-in_default-report_of : goal.returns-in_default-report_of
returns-in_default-report_of g c =
    let input = c.in_ok-bytes.ensures in
    record {
      ok = tt;
      front = λ same. absurd cc;
      kinds = search rules;
      input = record {
        read = λ same. absurd cc;
        too_long = λ same. absurd cc;
        read_to_end = tt;
        read_before_write = λ same. absurd cc;
        read_before_refusal = λ cause same. absurd cc;
        unfailed_read = λ _. inr input.input.read_to_end;
      };
      output = search (rules, none_written);
      session = record {
        kept = search rules;
        memory = λ _. inr (c.in_ok-bytes.verdict, input.reached.reached.validated, ok_has_no_error (λ e. e.kind ≡ Memory) c.in_ok-bytes.verdict c.in_default-report_of.ensures.refused);
        features = input.session.features;
        id = input.session.id;
      };
    }
