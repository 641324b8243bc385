use Rattle.std.proofs.Common.{ap, ◌∙◌}
use Rattle.wasmparser_payloads.specs.Parsing.{piece}
use Rattle.wasmparser_validator.proofs.JudgeLaws.{end_refused}
use Rattle.wasmparser_validator.specs.Judges.{judge, waiting}
use Rattle.wasmparser_validator.specs.Validators.{ValidatorState}
use Rattle.wasmparser_validator.specs.declared.validator.Stage.TheVariants as stages
use Rattle.wasmparser_validator.proofs.validator.Validator.end.Goals as goal

pub returns-in-Err-clause-ended : goal.returns-in-Err-clause-ended
unfolding piece
returns-in-Err-clause-ended c =
    end_refused (judge c.args.self.now) _ c.args.offset _ c.in_ok-open.ensures.open.0 c.in_ok-open.ensures.open.1 c.out_of_memory.ensures
    (c.wait_for.ensures ∙ rw c.in-Err.ensures.refused (ap (λ (v : ValidatorState). waiting (judge v) stages.Failed) (c.self.view_is ∙ c.in_ok-open.ensures.same)))
