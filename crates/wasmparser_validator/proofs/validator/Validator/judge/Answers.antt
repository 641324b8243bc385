use Rattle.std.proofs.Common.{◌≡◌, true, ap, subst, sym, ◌∙◌}
use Rattle.wasmparser_payloads.specs.Parsing.{piece}
use Rattle.wasmparser_validator.specs.Judges.{Judge, judge, waits_for}
use Rattle.wasmparser_validator.specs.Stages.{may_begin}
use Rattle.wasmparser_validator.specs.Validators.{ValidatorState}
use Rattle.wasmparser_validator.proofs.JudgeLaws.{middle_after}
use Rattle.wasmparser_validator.proofs.validator.Validator.judge.Goals as goal

pub add-requires : goal.add-requires
add-requires c =
    let waited = subst (λ (v : ValidatorState). waits_for (judge v) (piece c.args.payload.now) ≡ true) (sym c.in_ok-open.ensures.same) c.in_ok-open.ensures.open.0 in
    ap (λ (j : Judge). may_begin j.stage) c.go_on.ensures.judged ∙ middle_after (judge c.open.new.self) (piece c.args.payload.now) waited
