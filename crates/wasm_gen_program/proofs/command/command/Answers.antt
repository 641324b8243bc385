use Rattle.std.proofs.Common.{◌≡◌, ◌∙◌, ap, ap₂}
use Rattle.std.proofs.lemmas.Result.{IfOk-weaker}
use Rattle.clap.specs.Words.{App, app_of, with_subcommand}
use Rattle.wasm_gen_program.specs.CommandLine as line
use Rattle.wasm_gen_program.proofs.Plain.{of_value}
use Rattle.wasm_gen_program.proofs.command.command.Goals as goal

pub returns : goal.returns
returns c =
    let first : app_of c.in_ok-with_generate.with_generate ≡ with_subcommand line.alone line.generate.top =
    of_value c.generate.result c.generate.ensures c.in_ok-with_generate.ensures
    (λ x is adds. adds (ap (λ (a : App). a.top.is_plain) is) ∙ ap₂ with_subcommand c.in_ok-program.ensures (ap (λ (a : App). a.top) is)) in
    let second : app_of c.in_ok-with_check.with_check ≡ with_subcommand (with_subcommand line.alone line.generate.top) line.check.top =
    of_value c.check.result c.check.ensures c.in_ok-with_check.ensures
    (λ x is adds. adds (ap (λ (a : App). a.top.is_plain) is) ∙ ap₂ with_subcommand first (ap (λ (a : App). a.top) is)) in
    IfOk-weaker c.add-3.result _ _ (λ r third.
    of_value c.report.result c.report.ensures third
    (λ x is adds. adds (ap (λ (a : App). a.top.is_plain) is) ∙ ap₂ with_subcommand second (ap (λ (a : App). a.top) is)))
    c.add-3.ensures
