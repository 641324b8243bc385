use Rattle.std.proofs.lemmas.Result.{IfOk-weaker}
use Rattle.wasm_gen_program.proofs.Plain.{third}
use Rattle.wasm_gen_program.proofs.command.add.Goals as goal

pub returns : goal.returns
returns c = IfOk-weaker c.subcommand.result _ _ (λ r adds. rw (c.in_ok-command.was) (λ plain. adds.shape (third _ _ _ _ plain))) c.subcommand.ensures
