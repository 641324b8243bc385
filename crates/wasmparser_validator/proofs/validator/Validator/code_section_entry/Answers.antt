use Rattle.std.proofs.Common.{◌<◌, length, ap, sym, subst, ◌∙◌}
use Rattle.wasmparser_module_state.specs.StateResources.{state_resources}
use Rattle.wasmparser_payloads.specs.Parsing.{piece}
use Rattle.wasmparser_validator.specs.Judges.{Judge, judge}
use Rattle.wasmparser_validator.specs.Validators.{ValidatorState}
use Rattle.wasmparser_validator.proofs.JudgeLaws.{body_waited}
use Rattle.wasmparser_validator.proofs.validator.Validator.code_section_entry.Goals as goal

pub next_function-function-requires : goal.next_function-function-requires
unfolding piece
next_function-function-requires c =
    let fewer = body_waited (judge c.args.self.now) c.in_ok-clone.field-0 c.in_ok-open.ensures.open.0 in
    subst (λ (j : Judge). j.bodies < length j.known.own_functions) (sym c.in_ok-open.ensures.open.2) fewer

pub returns-in-Ok-clause-asks : goal.returns-in-Ok-clause-asks
returns-in-Ok-clause-asks c = (rw c.in-Ok.is at c.next_function-function.ensures.asks) ∙ ap (λ (v : ValidatorState). state_resources v.types.state) c.in_ok-open.ensures.same
