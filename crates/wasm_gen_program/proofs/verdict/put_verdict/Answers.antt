use Rattle.std.proofs.Common.{sym, ap, ◌∙◌}
use Rattle.wasm_validity.specs.IndexSpaces.{sizes_in}
use Rattle.wasmparser_validator.specs.KnownSpaces.{KnownModule, spaces_known}
use Rattle.wasm_gen_program.specs.Verdict.{yes_line, verdict_line}
use Rattle.wasm_gen_program.proofs.verdict.put_verdict.Goals as goal

pub returns-in-Ok : goal.returns-in-Ok
returns-in-Ok c = c.put_yes.ensures ∙ ap (λ (known : KnownModule). yes_line (sizes_in (spaces_known known))) c.as_ref.ensures ∙ ap verdict_line (sym c.in-Ok.is)
